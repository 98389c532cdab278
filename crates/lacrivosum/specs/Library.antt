-- The core as a library for C: state in bytes that the caller lends. A call decodes them, makes the call by value and encodes what it leaves, by
-- `turn_left` and `kept_after` of crate kept_reader.
use Rattle.std.specs.Prelude.{ℕ, ◌-◌, cond, List, length, eqb, ltb}
use Rattle.refusal.specs.declared.Refusal.TheVariants.{Room}
use Rattle.rows.specs.Rows.{overlay}
use Rattle.reader_link.specs.ReaderCalls.{Called}
use Rattle.uid.specs.Uid.{byte_count, uid_bytes}
use Rattle.uid.specs.declared.Uid.{Uid}
use Rattle.kept.specs.Kept.{state_size, uid_room, uid_in, refused}
use Rattle.kept_reader.specs.KeptReader.{answer_number, turn_left}

-- what comes of a call: its number, the state's bytes and the row to send
pub record Done : Type 0 where
  pub number : ℕ
  pub state : List ℕ
  pub out : List ℕ

abbrev pub done : ℕ → List ℕ → List ℕ → Done
done n s o = record { number = n; state = s; out = o }

-- lent memory x that a call leaves as y: unchanged where the state s is too short
unfoldable pub left : List ℕ → List ℕ → List ℕ → List ℕ
left s x y = cond (ltb (length s) state_size) x y

-- a reader's call that gives t by value, on the state s and the row o. A state that is too short: 1, all unchanged
unfoldable pub reader_done : List ℕ → List ℕ → Called → Done
reader_done s o t =
    cond (ltb (length s) state_size) (done (refused Room) s o)
    (done (answer_number t.turn.answer) (turn_left s t.turn) (overlay o 0 t.sent))

-- the UID u told, and how many bytes it has
abbrev pub uid_given : Uid → List ℕ → List ℕ → Done
uid_given u s o = done (byte_count u.size) s (overlay o 0 (uid_bytes u))

-- the UID of the reader or the card that the state says, its own bytes in front of the row o. No room for the longest UID: 1, all unchanged
unfoldable pub uid_done : List ℕ → List ℕ → Done
uid_done s o =
    cond (ltb (length s) state_size) (done (refused Room) s o)
    (cond (ltb (length o) uid_room) (done (refused Room) s o) (uid_given (uid_in s) s o))

-- what an answer is to C, that has the number n in the table's terms (0: not refused) and so many bits to send (law `number_says`)
abbrev pub coded : ℕ → ℕ → ℕ
coded n bits = cond (eqb n 0) bits (18446744073709551616 - n)
