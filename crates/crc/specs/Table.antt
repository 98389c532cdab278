-- Document 02, T-08: CRC_A "from a table of 256 numbers, the table's rule shown once over all entries". The rules of the tables.
use Rattle.std.specs.Prelude.{ℕ, zero, suc, ◌*◌, ◌/◌, ◌%◌, ◌^◌, List, [], ◌∷◌}
use Rattle.crc.specs.Crc.{shifts}

-- k entries by a rule, the first for the number i
unfoldable pub entries : (ℕ → ℕ) → ℕ → ℕ → List ℕ
entries f i zero = []
entries f i (suc k) = f i ∷ entries f (suc i) k

-- the table of n bits: for each byte, what they make of a register that holds it
unfoldable pub table : ℕ → List ℕ
table n = entries (shifts n) 0 256

-- the half byte j % 16 at the place j / 16 of a register, counted from below
unfoldable pub placed : ℕ → ℕ
placed j = j % 16 * 16 ^ (j / 16)

-- the table of n bits by half bytes: for each half byte at each of the four places, what they make of a register that holds it
unfoldable pub half_table : ℕ → List ℕ
half_table n = entries (λ j. shifts n (placed j)) 0 64
