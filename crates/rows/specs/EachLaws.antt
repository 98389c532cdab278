-- Laws of what holds of every element of a list, and of rows in parts. Assumes nothing.
use Rattle.std.specs.Prelude.{◌≡◌, ℕ, zero, suc, ◌≤◌, ◌<◌, List, [], ◌∷◌, map, ◌++◌, length, take, get_or, drop}
use Rattle.std.proofs.Common.{sym, ap, ◌∙◌, not-suc-le-zero, length-append, take_at, drop_at, arith}
use Rattle.std.proofs.lemmas.List.{length-replicate}
use Rattle.rows.specs.Rows.{All, Bits, fill}

pub all_map {ℓ} : {A B : Type ℓ} {F : A → Type 0} (G : B → Type 0) (f : A → B) (S : List A) → ((r : A) → F r → G (f r)) → All F S → All G (map f S)
all_map G f [] g h = tt
all_map G f (r ∷ S) g h = (g r h.0, all_map G f S g h.1)

pub all_weaken {ℓ} : {A : Type ℓ} {F G : A → Type 0} (S : List A) → ((r : A) → F r → G r) → All F S → All G S
all_weaken [] g h = tt
all_weaken (r ∷ S) g h = (g r h.0, all_weaken S g h.1)

pub all_zip {ℓ} : {A : Type ℓ} {F G H : A → Type 0} (S : List A) → ((r : A) → F r → G r → H r) → All F S → All G S → All H S
all_zip [] g h k = tt
all_zip (r ∷ S) g h k = (g r h.0 k.0, all_zip S g h.1 k.1)

pub all_get_d : (G : List ℕ → Type 0) (j : ℕ) (ls : List (List ℕ)) → All G ls → j < length ls → G (get_or ls j [])
all_get_d G j [] v h = absurd (not-suc-le-zero h)
all_get_d G zero (l ∷ ls) v h = v.0
all_get_d G (suc j) (l ∷ ls) v h = all_get_d G j ls v.1 (omega arith)

pub some_all : {A : Type 0} (T : List A) (G : Type 0) → 1 ≤ length T → All (λ t. G) T → G
some_all [] G h a = absurd (not-suc-le-zero h)
some_all (t ∷ T) G h a = a.0

pub bits_left : (P t : List ℕ) → Bits (P ++ t) → Bits P
bits_left [] t b = tt
bits_left (x ∷ P) t b = (b.0, bits_left P t b.1)

pub bits_right : (P t : List ℕ) → Bits (P ++ t) → Bits t
bits_right [] t h = h
bits_right (x ∷ P) t h = bits_right P t h.1

-- equal rows with first parts of one length have equal first and second parts
pub parts_equal : (n : ℕ) (l m A B : List ℕ) → length l ≡ n → length m ≡ n → l ++ A ≡ m ++ B → (l ≡ m) × (A ≡ B)
parts_equal n l m A B hl hm e = (
  sym (take_at l A n hl) ∙ ap (take n) e ∙ take_at m B n hm,
  sym (drop_at l A n hl) ∙ ap (drop n) e ∙ drop_at m B n hm,
)

pub length_fill : (n : ℕ) (l : List ℕ) → length l ≤ n → length (fill n l) ≡ n
unfolding fill
length_fill n l h = rw (length-append, length-replicate) (omega arith)
