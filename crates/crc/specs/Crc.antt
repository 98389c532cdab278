-- Document 01, "Frames on the air": CRC_A, "polynomial x^16+x^12+x^5+1, start 6363, least significant bit first, not inverted, low byte
-- sent first". 8408 is the polynomial with its lowest power in the top bit.
use Rattle.std.specs.Prelude.{ℕ, zero, suc, ◌-◌, ◌/◌, ◌%◌, Bool, cond, List, [], ◌∷◌, ◌++◌, eqb, length, take}
use Rattle.std.specs.Int.Bits.{bit_xor}
use Rattle.rows.specs.Rows.{same}

-- the register after one bit
unfoldable pub shift : ℕ → ℕ
shift c = cond (eqb (c % 2) 1) (bit_xor (c / 2) 0x8408) (c / 2)

-- .. after n bits
unfoldable pub shifts : ℕ → ℕ → ℕ
shifts zero c = c
shifts (suc n) c = shifts n (shift c)

-- .. after one byte more
unfoldable pub crc_byte : ℕ → ℕ → ℕ
crc_byte c b = shifts 8 (bit_xor c b)

-- .. after bytes
unfoldable pub crc_from : ℕ → List ℕ → ℕ
crc_from c [] = c
crc_from c (b ∷ l) = crc_from (crc_byte c b) l

-- CRC_A of bytes, as a number of 16 bits
unfoldable pub crc_a : List ℕ → ℕ
crc_a l = crc_from 0x6363 l

-- CRC_A as it is sent, low byte first
unfoldable pub crc_bytes : List ℕ → List ℕ
crc_bytes l = crc_a l % 256 ∷ crc_a l / 256 ∷ []

-- bytes and then their CRC_A
unfoldable pub with_crc : List ℕ → List ℕ
with_crc l = l ++ crc_bytes l

-- the last two bytes are the CRC_A of those before; fewer than two bytes have none
unfoldable pub crc_good : List ℕ → Bool
crc_good l = same l (with_crc (take (length l - 2) l))
