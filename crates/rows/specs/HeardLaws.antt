-- Laws of the tests on received rows: which bits collided, and whether two rows are equal. Assumes nothing.
use Rattle.std.specs.Prelude.{◌≡◌, refl, Bool, true, false, cond, List, [], ◌∷◌, ℕ, suc, ◌+◌, ◌≤◌, ◌<◌, max, length, take, drop, get_or, ltb, leb, eqb, ◌&&◌}
use Rattle.std.specs.Cmp.Lexicographic.{pointwise}
use Rattle.std.proofs.lemmas.Bool.{false≢true, lt-leb}
use Rattle.std.proofs.Common.{ap, add-one, arith, drop_of_length-le, drop-cons, ltb-true, ltb-false, le-leb, eq-eqb, ne_eqb}
use Rattle.rows.specs.Rows.{clean, same, Bits}
use Rattle.rows.specs.CleanLaws.{bits_clean}
use Rattle.rows.specs.ListLaws.{all_take_law, all_drop}

-- ---- the loop over `clean`

-- an element more: none of those from i on is over 1, nor is the largest before them
pub clean_next : (h : List ℕ) (i m : ℕ) → i < length h
    → cond (ltb 1 m) false (clean (drop i h)) ≡ cond (ltb 1 (max m (get_or h i 0))) false (clean (drop (i + 1) h))
unfolding clean
clean_next h i m l = rw (add-one, drop-cons h i 0) (go (ltb 1 m) (ltb 1 (get_or h i 0)) (ltb 1 (max m (get_or h i 0))) refl refl refl)
  where
    go : (a b c : Bool) → ltb 1 m ≡ a → ltb 1 (get_or h i 0) ≡ b → ltb 1 (max m (get_or h i 0)) ≡ c
        → cond a false (cond b false (clean (drop (suc i) h))) ≡ cond c false (clean (drop (suc i) h))
    go true b true p q r = refl
    go false true true p q r = refl
    go false false false p q r = refl
    go true b false p q r = absurd (omega (arith, ltb-true 1 m p, ltb-false 1 (max m (get_or h i 0)) r))
    go false true false p q r = absurd (omega (arith, ltb-true 1 (get_or h i 0) q, ltb-false 1 (max m (get_or h i 0)) r))
    go false false true p q r = absurd (omega (arith, ltb-false 1 m p, ltb-false 1 (get_or h i 0) q, ltb-true 1 (max m (get_or h i 0)) r))

pub clean_done : (h : List ℕ) (i m : ℕ) → length h ≤ i → cond (ltb 1 m) false (clean (drop i h)) ≡ leb m 1
unfolding clean
clean_done h i m l = rw (drop_of_length-le h l) (go (ltb 1 m) refl)
  where
    go : (b : Bool) → ltb 1 m ≡ b → cond b false true ≡ leb m 1
    go true e = rw (lt-leb m 1 (ltb-true 1 m e))
    go false e = rw (le-leb m 1 (ltb-false 1 m e))

-- ---- `same` is what `==` says of two slices

pub same_equal : (r s : List ℕ) → pointwise eqb r s ≡ same r s
unfolding same
same_equal [] [] = refl
same_equal [] (y ∷ s) = refl
same_equal (x ∷ r) [] = refl
same_equal (x ∷ r) (y ∷ s) = ap (λ b. eqb x y && b) (same_equal r s)

-- .. element by element

pub same_next : (r s : List ℕ) (i : ℕ) → i < length r → i < length s → get_or r i 0 ≡ get_or s i 0
    → same (drop i r) (drop i s) ≡ same (drop (i + 1) r) (drop (i + 1) s)
unfolding same
same_next r s i a b e = rw (add-one, drop-cons r i 0, drop-cons s i 0) (rw (eq-eqb (get_or r i 0) (get_or s i 0) e))

pub same_here : (r s : List ℕ) (i : ℕ) → i < length r → i < length s → (get_or r i 0 ≡ get_or s i 0 → ⊥)
    → same (drop i r) (drop i s) ≡ false
unfolding same
same_here r s i a b e = rw (drop-cons r i 0, drop-cons s i 0) (rw (ne_eqb (get_or r i 0) (get_or s i 0) e))

pub same_done : (r s : List ℕ) (i : ℕ) → length r ≤ i → length s ≤ i → same (drop i r) (drop i s) ≡ true
unfolding same
same_done r s i a b = rw (drop_of_length-le r a, drop_of_length-le s b)

-- ---- what a clean row is

-- a clean row is of 0 and 1
pub clean_bits : (h : List ℕ) → clean h ≡ true → Bits h
unfolding clean
clean_bits [] e = tt
clean_bits (x ∷ h) e = go (ltb 1 x) refl (clean_bits h) e
  where
    go : (b : Bool) → ltb 1 x ≡ b → (clean h ≡ true → Bits h) → cond b false (clean h) ≡ true → (x < 2) × Bits h
    go true t ih e = absurd (false≢true e)
    go false t ih e = (omega (arith, ltb-false 1 x t), ih e)

-- parts of a clean row are clean
pub clean_take : (n : ℕ) (h : List ℕ) → clean h ≡ true → clean (take n h) ≡ true
clean_take n h e = bits_clean (take n h) (all_take_law (λ x. x < 2) n h (clean_bits h e))

pub clean_drop : (n : ℕ) (h : List ℕ) → clean h ≡ true → clean (drop n h) ≡ true
clean_drop n h e = bits_clean (drop n h) (all_drop (λ x. x < 2) n h (clean_bits h e))
