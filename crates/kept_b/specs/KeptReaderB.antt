-- A Type B reader kept in lent bytes, by places from the front:
--     0 phase, 1 slots, 2 slot; of the last answer 3 what a slot held, 4 twelve bytes of its ATQB; 16 zeros; and where a Type A reader's state has
--     them 45 the event, 46 what came with it (eight bytes).
-- Of the 64 bytes that a call asks for these are the first 54; no call looks at those behind them.
use Rattle.std.specs.Prelude.{ℕ, Bool, true, false, cond, ◌&&◌, List, [], ◌∷◌, ◌++◌, get_or, replicate, eqb}
use Rattle.refusal.specs.Refusal.{place_of}
use Rattle.rows.specs.Rows.{overlay, same}
use Rattle.selection_b.specs.HeardB.{held_number}
use Rattle.reader_b.specs.declared.PhaseB.{PhaseB}
use Rattle.reader_b.specs.declared.PhaseB.TheVariants.{Ready, Slot, AttribSent, HltbSent, Stopped}
use Rattle.reader_b.specs.declared.ReaderB.{ReaderB}
use Rattle.reader_b.specs.declared.AnswerB.{AnswerB}
use Rattle.reader_b.specs.declared.AnswerB.TheVariants.{Sends, Marks, Ends, Attached, Halted, Declines}
use Rattle.reader_b.specs.declared.TurnB.{TurnB}
use Rattle.kept.specs.Kept.{bytes_at, event_of, length_of, refused}

abbrev pub phase_tag : PhaseB → ℕ
phase_tag Ready = 0
phase_tag Slot = 1
phase_tag AttribSent = 2
phase_tag HltbSent = 3
phase_tag Stopped = 4

abbrev pub phase_of : ℕ → PhaseB
phase_of t = cond (eqb t 0) Ready (cond (eqb t 1) Slot (cond (eqb t 2) AttribSent (cond (eqb t 3) HltbSent Stopped)))

unfoldable pub reader_bytes : ReaderB → List ℕ
reader_bytes r = phase_tag r.phase ∷ r.slots ∷ r.slot ∷ []

-- every row of bytes is one reader
unfoldable pub reader_in : List ℕ → ReaderB
reader_in b = record { phase = phase_of (get_or b 0 0); slots = get_or b 1 0; slot = get_or b 2 0 }

-- ---- what a call answers: so many bits to send, or minus the refusal's number

-- a marker has 24 bits
abbrev pub answer_number : AnswerB → ℕ
answer_number (Sends n) = n
answer_number (Marks k) = 24
answer_number (Ends k) = 0
answer_number (Attached m) = 0
answer_number Halted = 0
answer_number (Declines e) = refused e

abbrev pub answer_refuses : AnswerB → Bool
answer_refuses (Sends n) = false
answer_refuses (Marks k) = false
answer_refuses (Ends k) = false
answer_refuses (Attached m) = false
answer_refuses Halted = false
answer_refuses (Declines e) = true

-- the event, numbered behind those of Type A: 8 a slot is over and the next one is marked, 9 the last slot is over, 10 attached, 11 halted; none: 0
abbrev pub answer_event : AnswerB → ℕ
answer_event (Sends n) = 0
answer_event (Marks k) = 8
answer_event (Ends k) = 9
answer_event (Attached m) = 10
answer_event Halted = 11
answer_event (Declines e) = 0

-- what comes with it: the card's MBLI, or the byte index of a refusal (T-07)
abbrev pub answer_length : AnswerB → ℕ
answer_length (Sends n) = 0
answer_length (Marks k) = 0
answer_length (Ends k) = 0
answer_length (Attached m) = m
answer_length Halted = 0
answer_length (Declines e) = place_of e

-- what a slot held: "0, 1 or 2 for none, one, more"
abbrev pub answer_held : AnswerB → ℕ
answer_held (Sends n) = 0
answer_held (Marks k) = held_number k
answer_held (Ends k) = held_number k
answer_held (Attached m) = 0
answer_held Halted = 0
answer_held (Declines e) = 0

-- ---- what a call leaves in the lent bytes: the reader, then what was answered. Nothing is written where a call is refused and the reader stays
-- what it was

unfoldable pub slot_bytes : TurnB → List ℕ
slot_bytes t = answer_held t.answer ∷ bytes_at 12 t.atqb 0

abbrev pub front_bytes : TurnB → List ℕ
front_bytes t = reader_bytes t.reader ++ slot_bytes t

unfoldable pub answer_bytes : AnswerB → List ℕ
answer_bytes a = answer_event a ∷ answer_length a ∷ replicate 7 0

abbrev pub turn_bytes : TurnB → List ℕ
turn_bytes t = (front_bytes t ++ replicate 29 0) ++ answer_bytes t.answer

-- a call on the reader x is refused, and x stays: two readers are one if they are kept as the same bytes (law `same-reader`)
unfoldable pub stays : ReaderB → TurnB → Bool
stays x t = answer_refuses t.answer && same (reader_bytes x) (reader_bytes t.reader)

unfoldable pub turn_left : List ℕ → TurnB → List ℕ
turn_left b t = cond (stays (reader_in b) t) b (overlay b 0 (turn_bytes t))

-- ---- what lent bytes say: the reader, and of the last call that wrote them what a slot held, its ATQB, the event and what came with it

abbrev pub held_in : List ℕ → ℕ
held_in b = get_or b 3 0

abbrev pub atqb_in : List ℕ → List ℕ
atqb_in b = bytes_at 12 b 4

pub record Kept : Type 0 where
  pub reader : ReaderB
  pub held : ℕ
  pub atqb : List ℕ
  pub event : ℕ
  pub length : ℕ

abbrev pub kept_with : ReaderB → List ℕ → Kept
kept_with r b = record { reader = r; held = held_in b; atqb = atqb_in b; event = event_of b; length = length_of b }

abbrev pub kept_in : List ℕ → Kept
kept_in b = kept_with (reader_in b) b

-- .. what they say where a turn was written into them
abbrev pub kept_of : TurnB → Kept
kept_of t = record {
  reader = t.reader;
  held = answer_held t.answer;
  atqb = t.atqb;
  event = answer_event t.answer;
  length = answer_length t.answer;
}

-- .. and what the bytes b are to say after a call that gives t
unfoldable pub kept_after : List ℕ → TurnB → Kept
kept_after b t = cond (stays (reader_in b) t) (kept_with t.reader b) (kept_of t)
