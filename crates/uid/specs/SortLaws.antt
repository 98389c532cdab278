-- Laws of sorting by the falling order of keys. Assumes nothing.
use Rattle.std.specs.Prelude.{◌≡◌, Bool, eqb}
use Rattle.std.proofs.Math.Path.{refl, ap}
use Rattle.std.proofs.Common.{sym, ◌∙◌, eqb→eq}
use Prim.Native.Nat.{ℕ, zero, suc}
use Rattle.std.proofs.Math.Bool.{true, false, cond}
use Rattle.std.proofs.lemmas.Bool.{false≢true}
use mathlib.Core.List.{List, [], ◌∷◌, map}
use Rattle.std.proofs.Math.ListN.{length}
use Rattle.std.proofs.Math.Dec.{eqb-suc-suc, eqb-zero-suc, eqb-suc-zero}
use Rattle.rows.specs.Rows.{All}
use Rattle.uid.specs.Order.{Diff, on, off, later, diff, is_up, above, insert_on, sort_on}

eqb_flip : (x y : ℕ) → eqb x y ≡ eqb y x
eqb_flip zero zero = refl
eqb_flip zero (suc y) = rw (eqb-zero-suc, eqb-suc-zero)
eqb_flip (suc x) zero = rw (eqb-suc-zero, eqb-zero-suc)
eqb_flip (suc x) (suc y) = rw (eqb-suc-suc x y, eqb-suc-suc y x) (eqb_flip x y)

is_up_later : (D : Diff) → is_up (later D) ≡ is_up D
unfolding is_up later
is_up_later (on t) = refl
is_up_later (off p x) = refl

-- of two rows at most one comes before the other
pub above_asym : (r s : List ℕ) → above r s ≡ true → above s r ≡ false
unfolding above is_up diff
above_asym [] s e = absurd (false≢true e)
above_asym (x ∷ r) [] e = refl
above_asym (x ∷ r) (y ∷ s) e = rw (eqb_flip y x) (go (eqb x y) refl e (above_asym r s))
  where
    go : (b : Bool) → eqb x y ≡ b → is_up (cond b (later (diff r s)) (off 0 x)) ≡ true → (is_up (diff r s) ≡ true → is_up (diff s r) ≡ false)
        → is_up (cond b (later (diff s r)) (off 0 y)) ≡ false
    go true p q ih = is_up_later (diff s r) ∙ ih (sym (is_up_later (diff r s)) ∙ q)
    go false p q ih = rw (← eqb→eq x 1 (rw q tt), eqb_flip) p

module _ {A : Type 0} (key : A → List ℕ) where
  pub all_insert : (G : A → Type 0) (a : A) (l : List A) → G a → All G l → All G (insert_on key a l)
  unfolding insert_on
  all_insert G a [] h k = (h, tt)
  all_insert G a (b ∷ l) h k = go (above (key a) (key b)) (all_insert G a l h k.1)
    where
      go : (t : Bool) → All G (insert_on key a l) → All G (cond t (a ∷ b ∷ l) (b ∷ insert_on key a l))
      go true i = (h, k)
      go false i = (k.0, i)

  pub all_sort : (G : A → Type 0) (l : List A) → All G l → All G (sort_on key l)
  unfolding sort_on
  all_sort G [] h = tt
  all_sort G (a ∷ l) h = all_insert G a (sort_on key l) h.0 (all_sort G l h.1)

  length_insert : (a : A) (l : List A) → length (insert_on key a l) ≡ suc (length l)
  unfolding insert_on
  length_insert a [] = refl
  length_insert a (b ∷ l) = go (above (key a) (key b)) (length_insert a l)
    where
      go : (t : Bool) → length (insert_on key a l) ≡ suc (length l) → length (cond t (a ∷ b ∷ l) (b ∷ insert_on key a l)) ≡ suc (suc (length l))
      go true e = refl
      go false e = ap suc e

  pub length_sort : (l : List A) → length (sort_on key l) ≡ length l
  unfolding sort_on
  length_sort [] = refl
  length_sort (a ∷ l) = length_insert a (sort_on key l) ∙ ap suc (length_sort l)

  -- the keys are sorted
  map_insert : (a : A) (l : List A) → map key (insert_on key a l) ≡ insert_on (λ r. r) (key a) (map key l)
  unfolding insert_on
  map_insert a [] = refl
  map_insert a (b ∷ l) = go (above (key a) (key b)) (map_insert a l)
    where
      go : (t : Bool) → map key (insert_on key a l) ≡ insert_on (λ r. r) (key a) (map key l)
          → map key (cond t (a ∷ b ∷ l) (b ∷ insert_on key a l)) ≡ cond t (key a ∷ key b ∷ map key l) (key b ∷ insert_on (λ r. r) (key a) (map key l))
      go true e = refl
      go false e = ap (λ m. key b ∷ m) e

  pub map_sort : (l : List A) → map key (sort_on key l) ≡ sort_on (λ r. r) (map key l)
  unfolding sort_on
  map_sort [] = refl
  map_sort (a ∷ l) = map_insert a (sort_on key l) ∙ ap (insert_on (λ r. r) (key a)) (map_sort l)
