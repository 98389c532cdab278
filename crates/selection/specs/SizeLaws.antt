-- The sizes as a table, and past it. Assumes nothing.
use Rattle.std.specs.Prelude.{◌≡◌, refl, Bool, true, false, cond, List, [], ◌∷◌, ℕ, zero, suc, ◌≤◌, ◌<◌, length, get_or, ltb}
use Rattle.std.proofs.Common.{sym, not-suc-le-zero, arith, ltb-false}
use Rattle.std.proofs.Math.ListN.{get_or-eq_default}
use Rattle.rows.specs.Rows.{All}
use Rattle.selection.specs.Selection.{at_most8, size}

-- what lies past a table's end is not read
get_d_in : (l : List ℕ) (i d e : ℕ) → i < length l → get_or l i d ≡ get_or l i e
get_d_in [] i d e h = absurd (not-suc-le-zero h)
get_d_in (x ∷ l) zero d e h = refl
get_d_in (x ∷ l) (suc i) d e h = get_d_in l i d e (omega arith)

pub size_small : (i : ℕ) → i < 8 → get_or (16 ∷ 24 ∷ 32 ∷ 40 ∷ 48 ∷ 64 ∷ 96 ∷ 128 ∷ []) i 0 ≡ size i
unfolding size
size_small i h = get_d_in (16 ∷ 24 ∷ 32 ∷ 40 ∷ 48 ∷ 64 ∷ 96 ∷ 128 ∷ []) i 0 256 h

pub size_large : (i : ℕ) → 8 ≤ i → 256 ≡ size i
unfolding size
size_large i h = sym (get_or-eq_default (16 ∷ 24 ∷ 32 ∷ 40 ∷ 48 ∷ 64 ∷ 96 ∷ 128 ∷ []) 256 h)

-- "9 to 15 read as 8"
pub index_most : (i : ℕ) → at_most8 i ≤ 8
index_most i = go (ltb 8 i) refl
  where
    go : (b : Bool) → ltb 8 i ≡ b → cond b 8 i ≤ 8
    go true e = omega arith
    go false e = omega (arith, ltb-false 8 i e)

at_most : (l : List ℕ) (k : ℕ) → All (λ s. s ≤ 256) l → get_or l k 256 ≤ 256
at_most [] k h = omega arith
at_most (x ∷ l) zero h = h.0
at_most (x ∷ l) (suc k) h = at_most l k h.1

pub size_most : (i : ℕ) → size i ≤ 256
unfolding size
size_most i =
    at_most (16 ∷ 24 ∷ 32 ∷ 40 ∷ 48 ∷ 64 ∷ 96 ∷ 128 ∷ []) i
    (omega arith, (omega arith, (omega arith, (omega arith, (omega arith, (omega arith, (omega arith, (omega arith, tt))))))))
