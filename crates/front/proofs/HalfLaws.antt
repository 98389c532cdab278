-- Laws of T-01: halves, the end, and rows. Assumes nothing.
use Rattle.std.specs.Prelude.{◌≡◌, Bool, ◌&&◌, length, eqb, Float}
use Rattle.std.proofs.Math.Path.{refl, ap}
use Prim.Native.Nat.{ℕ, zero as none, suc, ◌%◌, ◌<◌}
use native.Mathlib.Omega.{arith}
use Rattle.std.proofs.Math.Bool.{true, false, cond}
use mathlib.Core.List.{List, [], ◌∷◌, ◌++◌}
use Rattle.std.specs.Float.Ieee.{lt, le}
use Rattle.rows.specs.Rows.{All}
use Rattle.front.specs.Front.{zero, energy, loaded, ending, bit_of, row_at}
use Rattle.front.specs.NumberLaws.{minus, lt_self, le_self, as_zero}

-- ---- "at least the level and above the floor"

-- an energy equal to the level is loaded, if it is above the floor
pub at_level : (floor e : Float) → energy e ≡ true → loaded e floor e ≡ lt floor e
unfolding loaded
at_level floor e h = rw (le_self e h)

-- .. and one equal to the floor is not
pub at_floor : (level e : Float) → loaded level e e ≡ false
unfolding loaded
at_floor level e = go (le level e) (lt e e) (lt_self e)
  where
    go : (a b : Bool) → b ≡ false → (a && b) ≡ false
    go true b h = h
    go false b h = refl

-- minus zero is zero, as a half and as the floor
pub minus_half : (level floor : Float) → loaded level floor minus ≡ loaded level floor zero
unfolding loaded
minus_half level floor = rw ((as_zero level).le_minus, (as_zero floor).lt_minus)

pub minus_floor : (level e : Float) → loaded level minus e ≡ loaded level zero e
unfolding loaded
minus_floor level e = rw (as_zero e).minus_lt

-- ---- rows

-- the halves of a row that is sent with a strong and a weak energy
unfoldable pub halves_of : Float → Float → List ℕ → List Float
halves_of strong weak [] = []
halves_of strong weak (b ∷ r) = cond (eqb b 0) weak strong ∷ cond (eqb b 1) weak strong ∷ halves_of strong weak r

module _ (level floor : Float) where
  -- 0, 1, and 2 for a collided bit: what the frame code reads
  pub row_elements : (h : List Float) → All (λ x. x < 3) (row_at level floor h)
  unfolding row_at
  row_elements [] = tt
  row_elements (a ∷ []) = tt
  row_elements (a ∷ b ∷ h) = go (loaded level floor a) (loaded level floor b) (row_elements h)
    where
      go : (s t : Bool) → All (λ x. x < 3) (row_at level floor h) → All (λ x. x < 3) (cond (ending s t) [] (bit_of s t ∷ row_at level floor h))
      go true true ih = (omega arith, ih)
      go true false ih = (omega arith, ih)
      go false true ih = (omega arith, ih)
      go false false ih = tt

  -- "neither the end": whatever comes behind it is ignored
  pub behind_end : (a : List Float) (x y : Float) (b : List Float) → length a % 2 ≡ 0 → loaded level floor x ≡ false → loaded level floor y ≡ false
      → row_at level floor (a ++ x ∷ y ∷ b) ≡ row_at level floor a
  unfolding row_at
  behind_end [] x y b n p q = rw (p, q)
  behind_end (u ∷ []) x y b n p q = absurd (omega arith)
  behind_end (u ∷ v ∷ a) x y b n p q =
      ap
      (λ (r : List ℕ). cond (ending (loaded level floor u) (loaded level floor v)) [] (bit_of (loaded level floor u) (loaded level floor v) ∷ r))
      (behind_end a x y b (omega arith) p q)

  -- every row of 0, 1 and 2 is received as it was sent
  pub as_sent : (strong weak : Float) → loaded level floor strong ≡ true → loaded level floor weak ≡ false
      → (r : List ℕ) → All (λ x. x < 3) r → row_at level floor (halves_of strong weak r) ≡ r
  unfolding row_at halves_of
  as_sent strong weak p q [] h = refl
  as_sent strong weak p q (none ∷ r) h = rw (p, q) (ap (λ l. 0 ∷ l) (as_sent strong weak p q r h.1))
  as_sent strong weak p q (suc none ∷ r) h = rw (p, q) (ap (λ l. 1 ∷ l) (as_sent strong weak p q r h.1))
  as_sent strong weak p q (suc (suc none) ∷ r) h = rw p (ap (λ l. 2 ∷ l) (as_sent strong weak p q r h.1))
  as_sent strong weak p q (suc (suc (suc b)) ∷ r) h = absurd (omega (arith, h.0))
