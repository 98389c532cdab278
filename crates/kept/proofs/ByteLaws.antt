-- A number as bytes, and bytes of a row, by the library's methods. Assumes nothing.
use Rattle.std.specs.Prelude.{eqb, ◌&&◌, ◌≡◌, refl, ℕ, zero, suc, ◌+◌, ◌-◌, ◌/◌, ◌%◌, min, List, [], ◌∷◌, ◌++◌, length, take, drop, replicate}
use Rattle.std.specs.Int.{w64, to_le_bytes, from_le_bytes}
use Rattle.std.proofs.Common.{sym, ap, ◌∙◌, arith, add-one, zero-add, length-drop, take_all}
use Rattle.std.proofs.lemmas.List.{take_min, drop_min}
use lib.Pointwise.{pointwise}
use Rattle.rows.specs.Rows.{overlay, same}
use Rattle.kept.specs.Kept.{bytes_at, word, number}

pub word_le : (n : ℕ) → to_le_bytes w64 n ≡ word 8 n
unfolding word
word_le n =
    let e2 : n / 65536 % 256 ≡ n / 256 / 256 % 256 = omega arith in
    let e3 : n / 16777216 % 256 ≡ n / 256 / 256 / 256 % 256 = omega arith in
    let e4 : n / 4294967296 % 256 ≡ n / 256 / 256 / 256 / 256 % 256 = omega arith in
    let e5 : n / 1099511627776 % 256 ≡ n / 256 / 256 / 256 / 256 / 256 % 256 = omega arith in
    let e6 : n / 281474976710656 % 256 ≡ n / 256 / 256 / 256 / 256 / 256 / 256 % 256 = omega arith in
    let e7 : n / 72057594037927936 % 256 ≡ n / 256 / 256 / 256 / 256 / 256 / 256 / 256 % 256 = omega arith in
    λ i. n % 256 ∷ n / 256 % 256 ∷ e2 i ∷ e3 i ∷ e4 i ∷ e5 i ∷ e6 i ∷ e7 i ∷ []

pub number_le : (b : List ℕ) (p : ℕ) → from_le_bytes w64 (bytes_at 8 b p) ≡ number 8 b p
unfolding bytes_at number
number_le b p = omega arith

bytes_none : (k p : ℕ) → bytes_at k [] p ≡ replicate k 0
unfolding bytes_at
bytes_none zero p = refl
bytes_none (suc k) p = ap (λ (l : List ℕ). 0 ∷ l) (bytes_none k (p + 1))

bytes_tail : (k x : ℕ) (b : List ℕ) (p : ℕ) → bytes_at k (x ∷ b) (suc p) ≡ bytes_at k b p
unfolding bytes_at
bytes_tail zero x b p = refl
bytes_tail (suc k) x b p = rw (add-one, add-one, bytes_tail k x b (suc p))

-- the bytes from a place on are those in front of what stands there
bytes_drop : (k : ℕ) (b : List ℕ) (p : ℕ) → bytes_at k b p ≡ bytes_at k (drop p b) 0
bytes_drop k b zero = refl
bytes_drop k [] (suc p) = bytes_none k (suc p) ∙ sym (bytes_none k 0)
bytes_drop k (x ∷ b) (suc p) = bytes_tail k x b p ∙ bytes_drop k b p

-- .. as many as there are, then zeros
front_put : (k : ℕ) (b : List ℕ) → take k b ++ drop (length (take k b)) (replicate k 0) ≡ bytes_at k b 0
unfolding bytes_at
front_put zero b = refl
front_put (suc k) [] = sym (bytes_none (suc k) 0)
front_put (suc k) (x ∷ b) = ap (λ (l : List ℕ). x ∷ l) (front_put k b ∙ sym (bytes_tail k x b 0))

pub bytes_put : (k p a : ℕ) (b l : List ℕ) → a ≡ min p (length b) → l ≡ take (length b - a) (drop a b) → overlay (replicate k 0) 0 (take (min k (length l)) l) ≡ bytes_at k b p
unfolding overlay
bytes_put k p a b l e f =
    let g : l ≡ drop p b = f ∙ take_all (length b - a) (drop a b) (simp length-drop (omega arith)) ∙ rw e (drop_min p b) in
    rw (take_min k l, zero-add) (front_put k l ∙ rw g (sym (bytes_drop k b p)))

-- the library's equality of two rows is that of `same`
pub same_is : (r s : List ℕ) → pointwise eqb r s ≡ same r s
unfolding same
same_is [] [] = refl
same_is [] (y ∷ s) = refl
same_is (x ∷ r) [] = refl
same_is (x ∷ r) (y ∷ s) = ap (λ b. eqb x y && b) (same_is r s)
