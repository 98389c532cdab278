-- Document 02, T-10: a row as tags and readers of vicinity cards take it: whole bytes of any number, CRC_B behind them. "rows are heard as in
-- T-05": eight data bits a byte, no parity. Bytes and their CRC_B on the air are `frameB` of crate frame_b.
use Rattle.std.specs.Prelude.{ℕ, ◌-◌, ◌/◌, ◌%◌, Bool, ◌&&◌, List, length, eqb, leb}
use Rattle.rows.specs.Rows.{clean}
use Rattle.crc.specs.CrcOf.{crc_good_b}
use Rattle.frame.specs.Frame.{bytes_of}

-- how many bytes stand in a row ahead of its CRC_B
abbrev pub bytes_in : List ℕ → ℕ
bytes_in f = length f / 8 - 2

-- a row that a tag can look into: whole bytes, at least flags, code and CRC_B, no collided bit, right CRC_B
unfoldable pub sound : List ℕ → Bool
sound f = eqb (length f % 8) 0 && (leb 32 (length f) && (clean f && crc_good_b (bytes_of (length f / 8) f)))
