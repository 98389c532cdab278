-- Bytes of a UID at a place, and how many there are at the most. Assumes nothing.
use Rattle.std.specs.Prelude.{◌≡◌, ℕ, suc, ◌+◌, ◌≤◌, ◌<◌, List, [], ◌∷◌, length, take, drop, get_or}
use Rattle.std.proofs.Common.{drop-cons, arith}
use Rattle.uid.specs.Uid.{level_count, byte_count}
use Rattle.uid.specs.declared.UidSize.{UidSize}
use Rattle.uid.specs.declared.UidSize.TheVariants.{Single, Double, Triple}

take_next : (k n : ℕ) (l : List ℕ) → n < length l → take (suc k) (drop n l) ≡ get_or l n 0 ∷ take k (drop (suc n) l)
take_next k n l h = rw (drop-cons l n 0 h)

-- three bytes from a place on, and four
pub three_at : (n : ℕ) (l : List ℕ) → n + 3 ≤ length l
    → take 3 (drop n l) ≡ get_or l n 0 ∷ get_or l (suc n) 0 ∷ get_or l (suc (suc n)) 0 ∷ []
three_at n l h =
    rw (take_next 2 n l (omega arith), take_next 1 (suc n) l (omega arith), take_next 0 (suc (suc n)) l (omega arith))

pub four_at : (n : ℕ) (l : List ℕ) → n + 4 ≤ length l
    → take 4 (drop n l) ≡ get_or l n 0 ∷ get_or l (suc n) 0 ∷ get_or l (suc (suc n)) 0 ∷ get_or l (suc (suc (suc n))) 0 ∷ []
four_at n l h = rw (take_next 3 n l (omega arith), three_at (suc n) l (omega arith))

-- a UID has at most ten bytes and three levels
pub bytes_most : (z : UidSize) → byte_count z ≤ 10
bytes_most Single = omega arith
bytes_most Double = omega arith
bytes_most Triple = omega arith

pub levels_most : (z : UidSize) → level_count z ≤ 3
levels_most Single = omega arith
levels_most Double = omega arith
levels_most Triple = omega arith
