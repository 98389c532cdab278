-- What CRC_A and CRC_B share: a CRC by its start value and by its end, what the register is turned by once all bytes are in. The register's steps
-- are those of CRC_A, specs/Crc.antt. Document 02, T-08: "Use the table for CRC_B too"; T-05: CRC_B has "start FFFF, inverted".
use Rattle.std.specs.Prelude.{ℕ, ◌-◌, ◌/◌, ◌%◌, Bool, List, [], ◌∷◌, ◌++◌, length, take}
use Rattle.std.specs.Int.Bits.{bit_xor}
use Rattle.rows.specs.Rows.{same}
use Rattle.crc.specs.Crc.{crc_from}

-- a CRC of bytes, as a number of 16 bits; the end FFFF inverts it, the end 0 leaves it
unfoldable pub crc_of : ℕ → ℕ → List ℕ → ℕ
crc_of start end l = bit_xor (crc_from start l) end

-- .. as it is sent, low byte first
unfoldable pub sent_of : ℕ → ℕ → List ℕ → List ℕ
sent_of start end l = crc_of start end l % 256 ∷ crc_of start end l / 256 ∷ []

-- bytes and then their CRC
unfoldable pub with_of : ℕ → ℕ → List ℕ → List ℕ
with_of start end l = l ++ sent_of start end l

-- the last two bytes are the CRC of those before; fewer than two bytes have none
unfoldable pub good_of : ℕ → ℕ → List ℕ → Bool
good_of start end l = same l (with_of start end (take (length l - 2) l))

-- CRC_B of bytes, as a number of 16 bits: "start FFFF, inverted"
abbrev pub crc_b : List ℕ → ℕ
crc_b l = crc_of 0xFFFF 0xFFFF l

-- CRC_B as it is sent
abbrev pub crc_bytes_b : List ℕ → List ℕ
crc_bytes_b l = sent_of 0xFFFF 0xFFFF l

-- bytes and then their CRC_B
abbrev pub with_crc_b : List ℕ → List ℕ
with_crc_b l = with_of 0xFFFF 0xFFFF l

-- the last two bytes are the CRC_B of those before
abbrev pub crc_good_b : List ℕ → Bool
crc_good_b l = good_of 0xFFFF 0xFFFF l
