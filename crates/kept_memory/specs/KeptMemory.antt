-- A reader that remembers (T-14) kept in lent bytes, by places from the front:
--     0 the reader's 21 bytes as in a whole reader's state, 21 zeros, 45 the last answer's event, 46 its length (eight bytes, the low byte first),
--     54 zeros, 64 how many places of the path are known (eight bytes), 72 its 120 places.
use Rattle.std.specs.Prelude.{ℕ, ◌<◌, ◌≡◌, Bool, cond, ◌&&◌, List, ◌∷◌, ◌++◌, length, take, drop, replicate}
use Rattle.rows.specs.Rows.{overlay, same}
use Rattle.reader.specs.declared.Reader.{Reader}
use Rattle.reader.specs.declared.Answer.{Answer}
use Rattle.memory.specs.Calls.{start_call}
use Rattle.memory.specs.declared.Path.{Path}
use Rattle.memory.specs.declared.Memory.{Memory}
use Rattle.kept.specs.Kept.{word, number, event_of, length_of}
use Rattle.kept_reader.specs.KeptReader.{selection_bytes, selection_of, selection_refuses, selection_event, selection_length}

-- the bytes that the state asks for
abbrev pub memory_size : ℕ
memory_size = 192

-- a sweep begins (crate memory's call m, which knows no path before it). Refused: all unchanged, and so the path p stays
abbrev pub begins_with : Path → Memory → Memory
begins_with p m = cond (selection_refuses m.turn.answer) (record { turn = m.turn; path = p }) m

unfoldable pub start_on : Reader → Path → ℕ → Memory
start_on r p room = begins_with p (start_call r room)

-- ---- the bytes

-- the event and its length, at the places of every state, zeros before and behind them
unfoldable pub told_bytes : Answer → List ℕ
told_bytes a = replicate 24 0 ++ ((selection_event a ∷ word 8 (selection_length a)) ++ replicate 10 0)

unfoldable pub path_bytes : Path → List ℕ
path_bytes p = word 8 p.known ++ p.row

-- the path of a state: any number known, of which crate memory takes no more than the places
unfoldable pub path_in : List ℕ → Path
path_in b = record { row = take 120 (drop 72 b); known = number 8 b 64 }

-- what every path in memory has: its number of 64 bits, and an array of its length
abbrev pub Fits : Path → Type 0
Fits p = (p.known < 18446744073709551616) × (length p.row ≡ 120)

-- what a call leaves in the lent bytes: the reader, what was answered, and the path
abbrev pub memory_bytes : Memory → List ℕ
memory_bytes m = (selection_bytes m.turn.reader ++ told_bytes m.turn.answer) ++ path_bytes m.path

-- a call on the reader r with the path p is refused, and both stay
unfoldable pub stays : Reader → Path → Memory → Bool
stays r p m =
    selection_refuses m.turn.answer
    && (same (selection_bytes r) (selection_bytes m.turn.reader) && same (path_bytes p) (path_bytes m.path))

-- .. then nothing is written
unfoldable pub memory_left : List ℕ → Memory → List ℕ
memory_left b m = cond (stays (selection_of b) (path_in b) m) b (overlay b 0 (memory_bytes m))

-- ---- what lent bytes say: the reader and its path, and of the last call that wrote them the event and what came with it

pub record Remembered : Type 0 where
  pub reader : Reader
  pub path : Path
  pub event : ℕ
  pub length : ℕ

abbrev pub memory_in : List ℕ → Remembered
memory_in b = record { reader = selection_of b; path = path_in b; event = event_of b; length = length_of b }

-- .. what they say where a call's outcome was written into them
abbrev pub memory_of : Memory → Remembered
memory_of m = record {
  reader = m.turn.reader;
  path = m.path;
  event = selection_event m.turn.answer;
  length = selection_length m.turn.answer;
}

-- .. and what the bytes b are to say after a call that gives m
unfoldable pub memory_after : List ℕ → Memory → Remembered
memory_after b m = record {
  reader = m.turn.reader;
  path = m.path;
  event = cond (stays (selection_of b) (path_in b) m) (event_of b) (selection_event m.turn.answer);
  length = cond (stays (selection_of b) (path_in b) m) (length_of b) (selection_length m.turn.answer);
}
