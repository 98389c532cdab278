-- Document 01, "Frames on the air": short and standard frames as rows of air bits, and what a received row holds.
use Rattle.std.specs.Prelude.{ℕ, zero, suc, ◌-◌, ◌/◌, ◌%◌, Bool, cond, not, ◌&&◌, List, [], ◌∷◌, ◌++◌, take, drop, get_or, length, eqb, leb, ltb}
use Rattle.rows.specs.Rows.{clean, same}
use Rattle.parity.specs.Bits.{bits_of, unbits, odd}
use Rattle.crc.specs.Crc.{with_crc}
use Rattle.refusal.specs.declared.Refusal.{Refusal}
use Rattle.refusal.specs.declared.Refusal.TheVariants.{Length, Parity, Crc, Collision}

-- ---- what is sent

-- "A short frame is 7 bits with no parity"
unfoldable pub short : ℕ → List ℕ
short b = bits_of 7 b

-- a byte on the air: its bits and then odd parity
unfoldable pub air_byte : ℕ → List ℕ
air_byte b = bits_of 8 b ++ odd (bits_of 8 b) ∷ []

-- "A standard frame is 1 to 256 bytes, each followed by odd parity"
unfoldable pub standard : List ℕ → List ℕ
standard [] = []
standard (b ∷ l) = air_byte b ++ standard l

-- bytes in air order, parity left out
unfoldable pub air_bits : List ℕ → List ℕ
air_bits [] = []
air_bits (b ∷ l) = bits_of 8 b ++ air_bits l

-- ---- what is heard

-- the data bits of n bytes with parity
unfoldable pub data_of : ℕ → List ℕ → List ℕ
data_of zero r = []
data_of (suc n) r = take 8 r ++ data_of n (drop 9 r)

-- n bytes from their data bits; bits that are not there are 0
unfoldable pub bytes_of : ℕ → List ℕ → List ℕ
bytes_of zero d = []
bytes_of (suc n) d = unbits (take 8 d) ∷ bytes_of n (drop 8 d)

-- the byte at the front of a row has no collided data bit and wrong parity; a collided parity bit is wrong
abbrev pub wrong_byte : List ℕ → Bool
wrong_byte r = clean (take 8 r) && not (eqb (get_or r 8 0) (odd (take 8 r)))

-- T-07: "the first byte, from 0, whose parity is wrong among those checked", of n bytes; n where none is wrong. A byte with a collided data bit
-- is not checked, but it is counted
unfoldable pub first_wrong : ℕ → List ℕ → ℕ
first_wrong zero r = 0
first_wrong (suc n) r = cond (wrong_byte r) 0 (suc (first_wrong n (drop 9 r)))

-- one of n bytes is wrong
unfoldable pub faulty : ℕ → List ℕ → Bool
faulty n r = ltb (first_wrong n r) n

-- what is made of a received row: good, with these bytes; or the first of the tests that it fails
pub data Verdict : Type 0 where
  Good : List ℕ → Verdict
  Fault : Refusal → Verdict

-- a row of n bits is whole bytes with parity, least to most of them
unfoldable pub whole_bytes : ℕ → ℕ → ℕ → Bool
whole_bytes least most n = eqb (n % 9) 0 && leb least (n / 9) && leb (n / 9) most

-- a received row as a standard frame of least to most bytes, tested 2, 8, 3
unfoldable pub read_frame : ℕ → ℕ → List ℕ → Verdict
read_frame least most h =
    cond (not (whole_bytes least most (length h))) (Fault Length)
    (cond (not (clean h)) (Fault Collision)
    (cond (faulty (length h / 9) h) (Fault (Parity (first_wrong (length h / 9) h)))
    (Good (bytes_of (length h / 9) (data_of (length h / 9) h)))))

-- the bytes of a frame without CRC_A, its last two bytes; 4 where those are wrong
unfoldable pub without_crc : List ℕ → Verdict
without_crc l = cond (same l (with_crc (take (length l - 2) l))) (Good (take (length l - 2) l)) (Fault Crc)

abbrev pub crc_checked : Verdict → Verdict
crc_checked (Good l) = without_crc l
crc_checked (Fault e) = Fault e

-- .. with CRC_A: tested 2, 8, 3, 4. Without CRC_A at least one byte is left, so least is at least 3 wherever this is used
unfoldable pub read_crc : ℕ → ℕ → List ℕ → Verdict
read_crc least most h = crc_checked (read_frame least most h)
