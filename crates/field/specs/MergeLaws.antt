-- Laws of rows that are sent together: their length, their parts, and what is heard where all send the same or no bit collides.
-- Assumes nothing.
use Rattle.std.specs.Prelude.{◌≡◌, refl, ℕ, suc, ◌≤◌, Bool, true, false, cond, length, eqb, ltb}
use Rattle.std.proofs.Math.Path.{sym, ap, ap₂}
use Rattle.std.proofs.Common.{subst, ◌∙◌, not-suc-le-zero, eqb-true, arith}
use Rattle.std.proofs.lemmas.Bool.{false≢true}
use mathlib.Core.List.{map-id, List, [], ◌∷◌, ◌++◌, map}
use Rattle.rows.specs.CleanLaws.{eqb_same}
use Rattle.rows.specs.Rows.{clean, All}
use Rattle.field.specs.Merge.{meet, join, merge}

pub join_nil : (r : List ℕ) → join r [] ≡ r
unfolding join
join_nil [] = refl
join_nil (x ∷ r) = refl

join_self : (x : List ℕ) → join x x ≡ x
unfolding join meet
join_self [] = refl
join_self (y ∷ x) = rw (eqb_same, join_self x)

join_append : (r r' s s' : List ℕ) → length r ≡ length r' → join (r ++ s) (r' ++ s') ≡ join r r' ++ join s s'
unfolding join
join_append [] [] s s' e = refl
join_append [] (y ∷ r') s s' e = absurd (omega arith)
join_append (x ∷ r) [] s s' e = absurd (omega arith)
join_append (x ∷ r) (y ∷ r') s s' e = ap (λ l. meet x y ∷ l) (join_append r r' s s' (omega arith))

length_join : (r s : List ℕ) → length r ≡ length s → length (join r s) ≡ length r
unfolding join
length_join [] [] e = refl
length_join [] (y ∷ s) e = sym e
length_join (x ∷ r) [] e = refl
length_join (x ∷ r) (y ∷ s) e = ap suc (length_join r s (omega arith))

module _ {A : Type 0} (f : A → List ℕ) (m : ℕ) where
  pub length_merge : (T : List A) → 1 ≤ length T → All (λ t. length (f t) ≡ m) T → length (merge (map f T)) ≡ m
  unfolding merge
  length_merge [] h a = absurd (not-suc-le-zero h)
  length_merge (t ∷ []) h a = rw join_nil a.0
  length_merge (t ∷ u ∷ T) h a = length_join (f t) (merge (map f (u ∷ T))) (a.0 ∙ sym (length_merge (u ∷ T) (omega arith) a.1)) ∙ a.0

  pub merge_append : (g : A → List ℕ) (T : List A) → 1 ≤ length T → All (λ t. length (f t) ≡ m) T
      → merge (map (λ t. f t ++ g t) T) ≡ merge (map f T) ++ merge (map g T)
  unfolding merge
  merge_append g [] h a = absurd (not-suc-le-zero h)
  merge_append g (t ∷ []) h a = simp join_nil
  merge_append g (t ∷ u ∷ T) h a =
      ap (join (f t ++ g t)) (merge_append g (u ∷ T) (omega arith) a.1)
      ∙ join_append (f t) (merge (map f (u ∷ T))) (g t) (merge (map g (u ∷ T))) (a.0 ∙ sym (length_merge (u ∷ T) (omega arith) a.1))

  -- what all send is heard
  pub merge_same : (x : List ℕ) (T : List A) → 1 ≤ length T → All (λ t. f t ≡ x) T → merge (map f T) ≡ x
  unfolding merge
  merge_same x [] h a = absurd (not-suc-le-zero h)
  merge_same x (t ∷ []) h a = join_nil (f t) ∙ a.0
  merge_same x (t ∷ u ∷ T) h a = ap₂ join a.0 (merge_same x (u ∷ T) (omega arith) a.1) ∙ join_self x

-- ---- where no bit collides all rows are what is heard

join_clean : (r s : List ℕ) → length r ≡ length s → clean (join r s) ≡ true → r ≡ s
unfolding join meet clean
join_clean [] [] h e = refl
join_clean [] (y ∷ s) h e = absurd (omega arith)
join_clean (x ∷ r) [] h e = absurd (omega arith)
join_clean (x ∷ r) (y ∷ s) h e = go (eqb x y) refl e (join_clean r s (omega arith))
  where
    clear : (b : Bool) → cond b false (clean (join r s)) ≡ true → clean (join r s) ≡ true
    clear true e = absurd (false≢true e)
    clear false e = e

    go : (b : Bool) → eqb x y ≡ b → cond (ltb 1 (cond b x 2)) false (clean (join r s)) ≡ true → (clean (join r s) ≡ true → r ≡ s) → x ∷ r ≡ y ∷ s
    go true t e ih = ap₂ ◌∷◌ (eqb-true x y t) (ih (clear (ltb 1 x) e))
    go false t e ih = absurd (false≢true e)

length_rows : (m : ℕ) (T : List (List ℕ)) → 1 ≤ length T → All (λ r. length r ≡ m) T → length (merge T) ≡ m
length_rows m T h a = rw (map-id T) at (length_merge (λ r. r) m T h a)

pub clean_merge : (m : ℕ) (T : List (List ℕ)) → 1 ≤ length T → All (λ r. length r ≡ m) T → clean (merge T) ≡ true → All (λ r. r ≡ merge T) T
unfolding merge
clean_merge m [] h a e = tt
clean_merge m (r ∷ []) h a e = (sym (join_nil r), tt)
clean_merge m (r ∷ s ∷ T) h a e =
    let U : List ℕ = merge (s ∷ T) in
    let p : r ≡ U = join_clean r U (a.0 ∙ sym (length_rows m (s ∷ T) (omega arith) a.1)) e in
    let q : join r U ≡ U = ap (λ l. join l U) p ∙ join_self U in
    let P : List ℕ → Type 0 = λ u. All (λ v. v ≡ u) (r ∷ s ∷ T) in
    subst P (sym q) (p, clean_merge m (s ∷ T) (omega arith) a.1 (rw q at e))
