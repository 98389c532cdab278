-- Document 01, "UIDs and their levels": the falling order ("at the first difference the 1 comes first"), and, for "Frames of a sweep", the
-- number of positions at which a row first differs from others.
use Rattle.std.specs.Prelude.{ℕ, zero, suc, ◌+◌, Bool, true, false, cond, List, [], ◌∷◌, length, eqb}
use Rattle.rows.specs.Rows.{any}

-- how a row lies to another row
pub data Diff : Type 0 where
  -- it is the other's head, and this is what the other has left
  on : List ℕ → Diff
  -- they part: the position of the first difference, and the first row's bit there
  off : ℕ → ℕ → Diff

unfoldable pub later : Diff → Diff
later (on t) = on t
later (off p x) = off (suc p) x

-- the first difference of two rows, seen from the first
unfoldable pub diff : List ℕ → List ℕ → Diff
diff [] r = on r
diff (x ∷ P) [] = off 0 x
diff (x ∷ P) (y ∷ r) = cond (eqb x y) (later (diff P r)) (off 0 x)

-- at the first difference the 1 comes first
unfoldable pub is_up : Diff → Bool
is_up (on t) = false
is_up (off p x) = eqb x 1

unfoldable pub above : List ℕ → List ℕ → Bool
above r s = is_up (diff r s)

-- insertion by the falling order of keys
unfoldable pub insert_on : {A : Type 0} → (A → List ℕ) → A → List A → List A
insert_on key a [] = a ∷ []
insert_on key a (b ∷ l) = cond (above (key a) (key b)) (a ∷ b ∷ l) (b ∷ insert_on key a l)

unfoldable pub sort_on : {A : Type 0} → (A → List ℕ) → List A → List A
sort_on key [] = []
sort_on key (a ∷ l) = insert_on key a (sort_on key l)

unfoldable pub one : Bool → ℕ
one true = 1
one false = 0

-- how many p < n pass the test
unfoldable pub count : ℕ → (ℕ → Bool) → ℕ
count zero f = 0
count (suc n) f = one (f 0) + count n (λ p. f (suc p))

unfoldable pub parts_at : ℕ → Diff → Bool
parts_at q (on t) = false
parts_at q (off p x) = eqb p q

-- the number of distinct positions at which P first differs from a row of S
unfoldable pub parts : List ℕ → List (List ℕ) → ℕ
parts P S = count (length P) (λ q. any (λ r. parts_at q (diff P r)) S)
