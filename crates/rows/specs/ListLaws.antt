-- Laws of tests on rows and of lists. Assumes nothing.
use Rattle.std.specs.Prelude.{◌≡◌, refl, ◌≢◌, ℕ, zero, suc, Bool, true, false, ◌&&◌, List, [], ◌∷◌, ◌++◌, map, length, take, drop, get_or, eqb}
use Rattle.std.proofs.Common.{ap, ap₂, Fits, arith, eqb-true, eq-eqb}
use Rattle.std.proofs.lemmas.Bool.{false≢true}
use Rattle.std.specs.Int.{w8}
use Rattle.rows.specs.Rows.{All, Bytes, same}

pub both : (a b : Bool) → (a && b) ≡ true → (a ≡ true) × (b ≡ true)
both true true e = (refl, refl)
both true false e = absurd (false≢true e)
both false b e = absurd (false≢true e)

-- ---- `same` is equality

pub same_refl : (r : List ℕ) → same r r ≡ true
unfolding same
same_refl [] = refl
same_refl (x ∷ r) = rw (eq-eqb x x refl, same_refl r)

pub same_sound : (r s : List ℕ) → same r s ≡ true → r ≡ s
unfolding same
same_sound [] [] e = refl
same_sound [] (y ∷ s) e = absurd (false≢true e)
same_sound (x ∷ r) [] e = absurd (false≢true e)
same_sound (x ∷ r) (y ∷ s) e =
    let h : (eqb x y ≡ true) × (same r s ≡ true) = both (eqb x y) (same r s) e in
    ap₂ ◌∷◌ (eqb-true x y h.0) (same_sound r s h.1)

pub same_eq : (r s : List ℕ) → r ≡ s → same r s ≡ true
same_eq r s e = rw e (same_refl s)

pub same_ne : (r s : List ℕ) → r ≢ s → same r s ≡ false
same_ne r s n = go (same r s) refl
  where
    go : (b : Bool) → same r s ≡ b → b ≡ false
    go true e = absurd (n (same_sound r s e))
    go false e = refl

-- rows of different length are not equal
pub same_length : (r s : List ℕ) → length r ≢ length s → same r s ≡ false
same_length r s n = same_ne r s (λ e. n (ap length e))

-- rows that begin alike are equal exactly where their rests are
pub same_append : (p r s : List ℕ) → same (p ++ r) (p ++ s) ≡ same r s
unfolding same
same_append [] r s = refl
same_append (x ∷ p) r s = rw (eq-eqb x x refl) (same_append p r s)

-- ---- every element

pub all_take_law : {A : Type 0} (F : A → Type 0) (n : ℕ) (l : List A) → All F l → All F (take n l)
all_take_law F zero l h = tt
all_take_law F (suc n) [] h = tt
all_take_law F (suc n) (x ∷ l) h = (h.0, all_take_law F n l h.1)

pub all_drop : {A : Type 0} (F : A → Type 0) (n : ℕ) (l : List A) → All F l → All F (drop n l)
all_drop F zero l h = h
all_drop F (suc n) [] h = tt
all_drop F (suc n) (x ∷ l) h = all_drop F n l h.1

pub all_append : {A : Type 0} (F : A → Type 0) (l m : List A) → All F l → All F m → All F (l ++ m)
all_append F [] m h k = k
all_append F (x ∷ l) m h k = (h.0, all_append F l m h.1 k)

pub all_of {ℓ} : {A : Type ℓ} {G : A → Type 0} → ((r : A) → G r) → (S : List A) → All G S
all_of g [] = tt
all_of g (r ∷ S) = (g r, all_of g S)

pub all_unmap : {A B : Type 0} (G : B → Type 0) (f : A → B) (l : List A) → All G (map f l) → All (λ a. G (f a)) l
all_unmap G f [] h = tt
all_unmap G f (a ∷ l) h = (h.0, all_unmap G f l h.1)

pub map_all : {A B : Type 0} (f g : A → B) (l : List A) → All (λ a. f a ≡ g a) l → map f l ≡ map g l
map_all f g [] h = refl
map_all f g (a ∷ l) h = ap₂ ◌∷◌ h.0 (map_all f g l h.1)

pub is_nil_law : (d : List ℕ) → length d ≡ 0 → d ≡ []
is_nil_law [] e = refl
is_nil_law (x ∷ d) e = absurd (omega arith)

-- what a slice's or an array's bytes are, told by index
pub bytes_at_law : (l : List ℕ) → ((i : ℕ) → Fits w8 (get_or l i 0)) → Bytes l
bytes_at_law [] h = tt
bytes_at_law (b ∷ l) h = ((h 0).fits, bytes_at_law l (λ i. h (suc i)))
