-- Document 01, "Frames on the air": "Air order is least significant bit first within a byte"; odd parity. Over the width.
use Rattle.std.specs.Prelude.{ℕ, zero, suc, ◌+◌, ◌*◌, ◌/◌, ◌%◌, List, [], ◌∷◌}

-- the n low bits of a number, the lowest first
unfoldable pub bits_of : ℕ → ℕ → List ℕ
bits_of zero b = []
bits_of (suc n) b = b % 2 ∷ bits_of n (b / 2)

-- the number of such a row
unfoldable pub unbits : List ℕ → ℕ
unbits [] = 0
unbits (x ∷ r) = x + 2 * unbits r

-- the number whose bytes are the elements of a row, the lowest first
unfoldable pub wide : List ℕ → ℕ
wide [] = 0
wide (x ∷ r) = x + 256 * wide r

-- how many of its bits are 1
unfoldable pub ones : List ℕ → ℕ
ones [] = 0
ones (x ∷ r) = x + ones r

-- the bit that makes the number of ones odd
unfoldable pub odd : List ℕ → ℕ
odd r = (1 + ones r) % 2
