-- Document 02, T-05: what the reader makes of a received row, by what it awaits. "In a slot, silence and collisions are no refusal, where
-- another answer is due 7 and 8". A received frame is tested 7, 2, 8, 4, 9 (document 01): the first test that applies wins.
use Rattle.std.specs.Prelude.{ℕ, ◌/◌, ◌%◌, cond, not, List, ◌∷◌, length, get_or, replicate, eqb, Result, Ok, Err}
use Rattle.rows.specs.Rows.{is_nil, clean}
use Rattle.frame.specs.Frame.{bytes_of, Verdict, Good, Fault}
use Rattle.frame_b.specs.FrameB.{without_crc_b, read_b}
use Rattle.refusal.specs.declared.Refusal.TheVariants.{Length, Silence, Forbidden}
use Rattle.selection_b.specs.declared.Held.{Held}
use Rattle.selection_b.specs.declared.Held.TheVariants.{None, One, More}
use Rattle.selection_b.specs.declared.SlotRead.{SlotRead}
use Rattle.refusal.specs.declared.Refusal.{Refusal}

-- ---- a slot

-- without an ATQB
abbrev pub nobody : Result Held Refusal → SlotRead
nobody s = record { says = s; atqb = replicate 12 0 }

abbrev pub alone : List ℕ → SlotRead
alone l = record { says = Ok One; atqb = l }

-- an ATQB begins with 50
abbrev pub slot_of : Verdict → SlotRead
slot_of (Good l) = cond (eqb (get_or l 0 0) 0x50) (alone l) (nobody (Err Forbidden))
slot_of (Fault e) = nobody (Err e)

-- ATQB has 14 bytes
unfoldable pub read_slot : List ℕ → SlotRead
read_slot h =
    cond (is_nil h) (nobody (Ok None))
    (cond (not (eqb (length h) 112)) (nobody (Err Length))
    (cond (not (clean h)) (nobody (Ok More))
    (slot_of (without_crc_b (bytes_of 14 h)))))

-- "0, 1 or 2 for none, one, more"
abbrev pub held_number : Held → ℕ
held_number None = 0
held_number One = 1
held_number More = 2

-- "13 a slot: 0, 1 or 2 for none, one, more, then the one's ATQB without CRC_B, else zeros"
unfoldable pub entry : Held → List ℕ → List ℕ
entry k atqb = held_number k ∷ atqb

-- ---- an answer of one byte and CRC_B

abbrev pub byte_of : Verdict → Result ℕ Refusal
byte_of (Good l) = Ok (get_or l 0 0)
byte_of (Fault e) = Err e

unfoldable pub read_byte : List ℕ → Result ℕ Refusal
read_byte h = cond (is_nil h) (Err Silence) (byte_of (read_b 1 h))

-- the answer to ATTRIB: MBLI in the high half, CID 0 in the low
abbrev pub attrib_of : Result ℕ Refusal → Result ℕ Refusal
attrib_of (Ok b) = cond (eqb (b % 16) 0) (Ok (b / 16)) (Err Forbidden)
attrib_of (Err e) = Err e

unfoldable pub read_attrib : List ℕ → Result ℕ Refusal
read_attrib h = attrib_of (read_byte h)

-- the answer to HLTB: 00
abbrev pub hltb_of : Result ℕ Refusal → Result Unit Refusal
hltb_of (Ok b) = cond (eqb b 0x00) (Ok tt) (Err Forbidden)
hltb_of (Err e) = Err e

unfoldable pub read_hltb : List ℕ → Result Unit Refusal
read_hltb h = hltb_of (read_byte h)
