-- Document 02, T-05: frames of Type B as rows of air bits, and what a received row holds. "Rows hold data bits only": eight bits a byte, so
-- that no parity is there to be wrong.
use Rattle.std.specs.Prelude.{ℕ, ◌+◌, ◌-◌, ◌*◌, cond, not, List, length, take, drop, eqb}
use Rattle.rows.specs.Rows.{clean}
use Rattle.parity.specs.Bits.{unbits}
use Rattle.crc.specs.CrcOf.{with_crc_b, crc_good_b}
use Rattle.frame.specs.Frame.{air_bits, bytes_of, Verdict, Good, Fault}
use Rattle.refusal.specs.declared.Refusal.TheVariants.{Length, Crc, Collision}

-- bytes and their CRC_B on the air
unfoldable pub frame_b : List ℕ → List ℕ
frame_b l = air_bits (with_crc_b l)

-- byte i of a row, from 0
abbrev pub byte_at : ℕ → List ℕ → ℕ
byte_at i f = unbits (take 8 (drop (8 * i) f))

-- the bytes of a frame without CRC_B, its last two bytes; 4 where those are wrong
unfoldable pub without_crc_b : List ℕ → Verdict
without_crc_b l = cond (crc_good_b l) (Good (take (length l - 2) l)) (Fault Crc)

-- a received row as a frame of n bytes and CRC_B, tested 2, 8, 4
unfoldable pub read_b : ℕ → List ℕ → Verdict
read_b n h =
    cond (not (eqb (length h) (8 * (n + 2)))) (Fault Length)
    (cond (not (clean h)) (Fault Collision)
    (without_crc_b (bytes_of (n + 2) h)))
