-- Document 02, T-10: what the reader makes of a received row. "rows are heard as in T-05": in a slot silence and collisions are no refusal, where another
-- answer is due 7 and 8. A received frame is tested 7, 2, 8, 4, 9 (document 01): the first test that applies wins.
use Rattle.std.specs.Prelude.{ℕ, ◌+◌, ◌-◌, ◌/◌, ◌%◌, Bool, cond, not, ◌&&◌, ◌||◌, List, length, take, drop, replicate, eqb, leb, Result, Ok, Err}
use Rattle.rows.specs.Rows.{is_nil, clean}
use Rattle.parity.specs.Bits.{unbits}
use Rattle.crc.specs.CrcOf.{crc_good_b}
use Rattle.frame.specs.Frame.{bytes_of}
use Rattle.frame_b.specs.FrameB.{byte_at}
use Rattle.request_v.specs.Inventory.{matching}
use Rattle.refusal.specs.declared.Refusal.TheVariants.{Length, Silence, Collision, Crc, Forbidden}
use Rattle.selection_b.specs.declared.Held.{Held}
use Rattle.selection_b.specs.declared.Held.TheVariants.{None, One, More}
use Rattle.answer_v.specs.declared.SlotV.{SlotV}
use Rattle.answer_v.specs.declared.Turn.{Turn}
use Rattle.answer_v.specs.declared.AnswerSays.{AnswerSays}
use Rattle.answer_v.specs.declared.AnswerSays.TheVariants.{Good, Fails, NotGood}
use Rattle.refusal.specs.declared.Refusal.{Refusal}

-- ---- a slot

abbrev pub nobody : Result Held Refusal → SlotV
nobody s = record { says = s; dsfid = 0; uid = replicate 8 0 }

-- a UID is that of a tag which answers here: its low bits are the mask and, of 16 slots, the slot's number stands above it
unfoldable pub fits : Turn → List ℕ → Bool
fits k h =
    leb k.len 64
    && (matching k.mask h 16 k.len && (k.one || (leb k.len 60 && eqb (unbits (take 4 (drop (16 + k.len) h))) k.slot)))

-- "wherever two tags met": any collided bit. Where the mask cannot grow, no two tags with different UIDs can meet
abbrev pub collided : Bool → SlotV
collided deep = cond deep (nobody (Err Forbidden)) (nobody (Ok More))

-- 96 bits, none of them collided: 00, DSFID, UID, CRC_B
unfoldable pub slot_in : Turn → List ℕ → SlotV
slot_in k h =
    cond (not (crc_good_b (bytes_of (length h / 8) h))) (nobody (Err Crc))
    (cond (eqb (byte_at 0 h) 0x00 && fits k h) (record { says = Ok One; dsfid = byte_at 1 h; uid = bytes_of 8 (drop 16 h) })
    (nobody (Err Forbidden)))

unfoldable pub read_slot : Turn → List ℕ → SlotV
read_slot k h =
    cond (is_nil h) (nobody (Ok None))
    (cond (not (eqb (length h) 96)) (nobody (Err Length))
    (cond (not (clean h)) (collided k.deep) (slot_in k h)))

-- ---- another answer

-- the error codes of table 7: 01, 02, 03, 0F, 10 to 14, and A0 to DF, which are the maker's
unfoldable pub is_code : ℕ → Bool
is_code e = leb 0x01 e && leb e 0x03 || (leb 0x0F e && leb e 0x14 || leb 0xA0 e && leb e 0xDF)

-- n bytes behind the flags can be count + 1 blocks of one size, 1 to 32 bytes, each with its status byte if that was asked for
unfoldable pub is_data : ℕ → Bool → ℕ → Bool
is_data count status n =
    eqb (n % (count + 1)) 0 && (leb (cond status 2 1) (n / (count + 1)) && leb (n / (count + 1)) (cond status 33 32))

-- what a good answer has behind its flags: a read's blocks, else nothing
abbrev pub fitting : Bool → ℕ → Bool → ℕ → Bool
fitting reads count status n = cond reads (is_data count status n) (eqb n 0)

-- a length that the answer can have, in bits; an error has 32
unfoldable pub is_length : Bool → ℕ → Bool → ℕ → Bool
is_length reads count status n = eqb n 32 || eqb (n % 8) 0 && (leb 24 n && fitting reads count status (n / 8 - 3))

-- 00, with bytes behind it that the answer can have: good; 01 and one byte, a code of table 7: the tag's error; "other codes, or flags not 00 or 01, are 9"
unfoldable pub value_of : Bool → ℕ → Bool → ℕ → ℕ → ℕ → AnswerSays
value_of reads count status flags code n =
    cond (eqb flags 0x00 && fitting reads count status n) (Good n)
    (cond (eqb flags 0x01 && (eqb n 1 && is_code code)) (Fails code) (NotGood Forbidden))

-- whole bytes, three at least, no collided bit
unfoldable pub answer_in : Bool → ℕ → Bool → List ℕ → AnswerSays
answer_in reads count status h =
    cond (not (crc_good_b (bytes_of (length h / 8) h))) (NotGood Crc)
    (value_of reads count status (byte_at 0 h) (byte_at 1 h) (length h / 8 - 3))

unfoldable pub read_answer : Bool → ℕ → Bool → List ℕ → AnswerSays
read_answer reads count status h =
    cond (is_nil h) (NotGood Silence)
    (cond (not (is_length reads count status (length h))) (NotGood Length)
    (cond (not (clean h)) (NotGood Collision) (answer_in reads count status h)))
