-- The sweep finds the falling sort of the rows, with the frames that the sum over them says; and a bound of that sum.
-- Assumes nothing.
use mathlib.Core.Path.{◌≡◌, refl, sym, ap, ◌∙◌}
use Prim.Native.Nat.{ℕ, zero, suc, ◌+◌, ◌-◌, ◌*◌, ◌/◌, ◌≤◌}
use native.Mathlib.Nat.{not-suc-le-zero}
use native.Mathlib.Numerals.{sub-one}
use mathlib.Core.List.{List, [], ◌∷◌}
use lib.ListN.{length}
use native.Mathlib.Omega.{arith}
use Rattle.limits.specs.Limits.{frames_bound}
use Rattle.rows.specs.Rows.{All}
use Rattle.uid.specs.LevelLaws.{wide, InLevels}
use Rattle.uid.specs.Order.{sort_on, parts}
use Rattle.uid.specs.PartsLaws.{parts_le, parts_self}
use Rattle.uid.specs.SortLaws.{all_sort, length_sort}
use Rattle.sweep_rules.proofs.Abstract.{rest, select, sweep, sort, levels, frames, Apart}
use Rattle.sweep_rules.proofs.Select.{Selected, select_holds}
use Rattle.sweep_rules.proofs.Sort.{sort_first, parts_sort, all_rest, apart_rest, length_rest}

-- one round, and the rounds after it
round : (T : List (List ℕ)) (s : List ℕ × ℕ) (w : List (List ℕ) × ℕ) → Selected T s → w ≡ (sort (rest s.0 T), frames (sort (rest s.0 T)))
    → ◌≡◌ {A = List (List ℕ) × ℕ} (s.0 ∷ w.0, 2 + s.1 + w.1) (sort T, frames (sort T))
unfolding frames
round T s w k e =
    let l : List (List ℕ) = sort (rest s.0 T) in
    let first : sort T ≡ s.0 ∷ l = sort_first s.0 T k.top k.only in
    let same : parts s.0 T ≡ parts s.0 l = sym (parts_sort s.0 T) ∙ ap (parts s.0) first ∙ parts_self s.0 l in
    rw (e, first) (ap (λ m. (s.0 ∷ l, m)) (omega (arith, k.cost)))

pub sweep_holds : (n : ℕ) (S : List (List ℕ)) → length S ≤ n → All (InLevels 3) S → Apart S → sweep n S ≡ (sort S, frames (sort S))
unfolding sweep sort_on frames
sweep_holds zero [] h w a = refl
sweep_holds zero (r ∷ S) h w a = absurd (not-suc-le-zero h)
sweep_holds (suc n) [] h w a = refl
sweep_holds (suc n) (r ∷ S) h w a =
    let T : List (List ℕ) = r ∷ S in
    let s : List ℕ × ℕ = select 3 T in
    let k : Selected T s = select_holds 3 T (omega arith) w a in
    round T s (sweep n (rest s.0 T)) k
    (sweep_holds n (rest s.0 T) (omega (arith, length_rest s.0 T, ap length k.only)) (all_rest (InLevels 3) s.0 T w) (apart_rest s.0 T a))

-- ---- the bound

levels_le : (r : List ℕ) → InLevels 3 r → levels r ≤ 3
unfolding levels wide
levels_le r w = omega (arith, w.at_most)

tri : ℕ → ℕ
tri zero = 0
tri (suc n) = n + tri n

twice_tri : (n : ℕ) → 2 * tri (suc n) ≡ suc n * n
unfolding tri
twice_tri zero = refl
twice_tri (suc n) = omega (arith, twice_tri n)

tri_is : (n : ℕ) → tri n ≡ n * (n - 1) / 2
unfolding tri
tri_is zero = refl
tri_is (suc n) = rw sub-one (omega (arith, twice_tri n))

frames_tri : (l : List (List ℕ)) → All (InLevels 3) l → frames l ≤ 1 + 8 * length l + tri (length l)
unfolding frames tri
frames_tri [] w = omega arith
frames_tri (r ∷ l) w = omega (arith, levels_le r w.0, parts_le r l, frames_tri l w.1)

pub sweep_bound : (S : List (List ℕ)) → All (InLevels 3) S → frames (sort S) ≤ frames_bound (length S)
sweep_bound S w = rw (← tri_is (length S)) (rw (length_sort (λ s. s) S) at (frames_tri (sort S) (all_sort (λ s. s) (InLevels 3) S w)))

tri_mono : (n m : ℕ) → n ≤ m → tri n ≤ tri m
unfolding tri
tri_mono zero m h = omega arith
tri_mono (suc n) zero h = absurd (not-suc-le-zero h)
tri_mono (suc n) (suc m) h = omega (arith, tri_mono n m (omega arith))

-- at most n cards take at most the frames that n cards may take
pub frames_small : (n : ℕ) (S : List (List ℕ)) → All (InLevels 3) S → length S ≤ n → frames (sort S) ≤ frames_bound n
frames_small n S w h = rw (← tri_is n) (omega (arith, rw (length_sort (λ s. s) S) at (frames_tri (sort S) (all_sort (λ s. s) (InLevels 3) S w)), tri_mono (length S) n h))
