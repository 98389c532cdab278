-- Document 01, "Frames on the air": "Cards that send together give equal bits where they agree, collided where not. Where none sends, the
-- row is empty." A collided bit is written as 2.
use Rattle.std.specs.Prelude.{ℕ, cond, List, [], ◌∷◌, eqb}

-- two bits
unfoldable pub meet : ℕ → ℕ → ℕ
meet x y = cond (eqb x y) x 2

-- two rows; where only one sends, its bit
unfoldable pub join : List ℕ → List ℕ → List ℕ
join [] s = s
join (x ∷ r) [] = x ∷ r
join (x ∷ r) (y ∷ s) = meet x y ∷ join r s

-- all rows; a silent card's row is empty
unfoldable pub merge : List (List ℕ) → List ℕ
merge [] = []
merge (r ∷ S) = join r (merge S)
