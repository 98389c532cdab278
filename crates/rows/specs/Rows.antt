-- Rows: lists of air bits, or of bytes, and how a row is written into a longer one.
-- Document 01, "Frames on the air": "A received row gives each bit as 0, 1 or collided". An element over 1 is a collided bit.
use Rattle.std.specs.Prelude.{ℕ, ◌+◌, ◌-◌, ◌<◌, Bool, true, false, cond, ◌&&◌, ◌||◌, List, [], ◌∷◌, ◌++◌, length, take, drop, replicate, eqb, ltb}

-- d with s written over it from index at on; all else of d is untouched
unfoldable pub overlay : List ℕ → ℕ → List ℕ → List ℕ
overlay d at s = take at d ++ (s ++ drop (at + length s) d)

-- "Where none sends, the row is empty"
unfoldable pub is_nil : List ℕ → Bool
is_nil [] = true
is_nil (x ∷ r) = false

-- no bit of a received row collided
unfoldable pub clean : List ℕ → Bool
clean [] = true
clean (x ∷ h) = cond (ltb 1 x) false (clean h)

-- the bits before the first collided one and then a 1; all of them, where none collided
-- (document 01, "The reader and the sweep": "the next frame sends the bits before p and then a 1")
unfoldable pub next : List ℕ → List ℕ
next [] = []
next (x ∷ h) = cond (ltb 1 x) (1 ∷ []) (x ∷ next h)

-- two rows are equal, element by element
unfoldable pub same : List ℕ → List ℕ → Bool
same [] [] = true
same [] (y ∷ s) = false
same (x ∷ r) [] = false
same (x ∷ r) (y ∷ s) = eqb x y && same r s

-- l with zeros behind it, n long
unfoldable pub fill : ℕ → List ℕ → List ℕ
fill n l = l ++ replicate (n - length l) 0

-- some element passes the test
unfoldable pub any {ℓ} : {A : Type ℓ} → (A → Bool) → List A → Bool
any f [] = false
any f (x ∷ l) = f x || any f l

-- every element has F
abbrev pub All {ℓ} : {A : Type ℓ} → (A → Type 0) → List A → Type 0
All F [] = Unit {0}
All F (x ∷ l) = F x × All F l

-- every element is 0 or 1
abbrev pub Bits : List ℕ → Type 0
Bits r = All (λ x. x < 2) r

-- every element is a byte
abbrev pub Bytes : List ℕ → Type 0
Bytes l = All (λ b. b < 256) l
