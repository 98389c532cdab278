-- Sorted rows are in falling order. Assumes nothing.
use mathlib.Core.Path.{◌≡◌, refl, ap}
use Prim.Native.Nat.{ℕ, zero, suc, ◌≤◌}
use native.Mathlib.Nat.{not-suc-le-zero}
use mathlib.Core.Bool.{true}
use mathlib.Core.List.{List, [], ◌∷◌}
use lib.ListN.{length}
use native.Mathlib.Omega.{arith}
use Rattle.rows.specs.Rows.{All}
use Rattle.uid.specs.LevelLaws.{InLevels}
use Rattle.uid.specs.Order.{sort_on, Diff, on, off, diff, is_up, above}
use Rattle.uid.specs.SortLaws.{all_sort}
use Rattle.sweep_rules.proofs.Abstract.{rest, leave, Up, Top, sort, select, Apart, Falling}
use Rattle.sweep_rules.proofs.Select.{Selected, select_holds}
use Rattle.sweep_rules.proofs.Sort.{sort_first, all_rest, apart_rest, length_rest}

rest_above : (P : List ℕ) (S : List (List ℕ)) → Top P S → All (λ s. above P s ≡ true) (rest P S)
unfolding rest leave above is_up
rest_above P [] t = tt
rest_above P (r ∷ S) t = go (diff P r) refl t.0 (rest_above P S t.1)
  where
    go : (D : Diff) → diff P r ≡ D → Up D → All (λ s. above P s ≡ true) (rest P S) → All (λ s. above P s ≡ true) (leave D r (rest P S))
    go (on u) d t ih = ih
    go (off p x) d t ih = (rw (d, t), ih)

falling : (n : ℕ) (S : List (List ℕ)) → length S ≤ n → All (InLevels 3) S → Apart S → Falling (sort S)
unfolding sort_on
falling zero [] h w a = tt
falling zero (r ∷ S) h w a = absurd (not-suc-le-zero h)
falling (suc n) [] h w a = tt
falling (suc n) (r ∷ S) h w a =
    let T : List (List ℕ) = r ∷ S in
    let P : List ℕ = (select 3 T).0 in
    let k : Selected T (select 3 T) = select_holds 3 T (omega arith) w a in
    rw (sort_first P T k.top k.only) (
      all_sort (λ s. s) (λ s. above P s ≡ true) (rest P T) (rest_above P T k.top),
      falling n (rest P T) (omega (arith, length_rest P T, ap length k.only)) (all_rest (InLevels 3) P T w) (apart_rest P T a),
    )

pub sort_falling : (S : List (List ℕ)) → All (InLevels 3) S → Apart S → Falling (sort S)
sort_falling S w a = falling (length S) S (omega arith) w a
