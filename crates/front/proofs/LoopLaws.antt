-- Laws of the loops over halves. Assumes nothing.
use Rattle.std.specs.Prelude.{◌≡◌, Bool, cond, drop, get_or, set, Float}
use Rattle.std.proofs.Math.Path.{refl}
use Rattle.std.proofs.Common.{drop_of_length-le}
use Prim.Native.Nat.{ℕ, ◌+◌, ◌*◌, ◌≤◌, ◌<◌}
use Rattle.std.proofs.Math.Bool.{true, false}
use mathlib.Core.List.{List, [], ◌∷◌, ◌++◌}
use Rattle.std.proofs.Math.Numerals.{add-one}
use native.Mathlib.Omega.{arith}
use Rattle.std.proofs.Math.ListN.{length}
use Rattle.std.proofs.Math.Seq.{drop-cons}
use Rattle.std.specs.Float.Ieee.{nan}
use Rattle.rows.specs.Rows.{overlay}
use Rattle.rows.proofs.RowLaws.{overlay_one, overlay_next}
use Rattle.front.specs.Front.{energy, energies, loaded, ending, bit_of, row_at}

-- ---- the loop over `energies`

pub energies_next : (h : List Float) (i : ℕ) → i < length h → energy (get_or h i nan) ≡ true → energies (drop i h) ≡ energies (drop (i + 1) h)
unfolding energies
energies_next h i l e = rw (add-one, drop-cons h i nan) (rw e)

pub energies_here : (h : List Float) (i : ℕ) → i < length h → energy (get_or h i nan) ≡ false → energies (drop i h) ≡ false
unfolding energies
energies_here h i l e = rw (drop-cons h i nan) (rw e)

pub energies_done : (h : List Float) (i : ℕ) → length h ≤ i → energies (drop i h) ≡ true
unfolding energies
energies_done h i l = rw (drop_of_length-le h l)

-- ---- the loop over `row_at`

-- one element is stored, and the rest is written behind it
pub overlay_shift : (d : List ℕ) (i v : ℕ) (r : List ℕ) → i + 1 + length r ≤ length d → overlay (set d i v) (i + 1) r ≡ overlay d i (v ∷ r)
overlay_shift d i v r h = rw (overlay_one d i v (omega arith)) (overlay_next d i (v ∷ []) r (omega arith))

module _ (level floor : Float) where
  abbrev at : List Float → ℕ → Bool
  at h i = loaded level floor (get_or h i nan)

  -- a row has no more bits than there are whole ones
  pub row_length : (h : List Float) → 2 * length (row_at level floor h) ≤ length h
  unfolding row_at
  row_length [] = omega arith
  row_length (a ∷ []) = omega arith
  row_length (a ∷ b ∷ h) = go (ending (loaded level floor a) (loaded level floor b)) (row_length h)
    where
      go : (t : Bool) → 2 * length (row_at level floor h) ≤ length h
          → 2 * length (cond t [] (bit_of (loaded level floor a) (loaded level floor b) ∷ row_at level floor h)) ≤ length (a ∷ b ∷ h)
      go true e = omega arith
      go false e = omega arith

  -- a row begins with what its first two halves say: the end, or a bit and the rest
  row_pair : (p h : List Float) → length p ≡ 2 → {a b : Bool} → a ≡ at p 0 → b ≡ at p 1
      → row_at level floor (p ++ h) ≡ cond (ending a b) [] (bit_of a b ∷ row_at level floor h)
  unfolding row_at
  row_pair [] h n p q = absurd (omega arith)
  row_pair (x ∷ []) h n p q = absurd (omega arith)
  row_pair (x ∷ y ∷ []) h n p q = rw (p, q)
  row_pair (x ∷ y ∷ z ∷ r) h n p q = absurd (omega arith)

  pub row_ends : (p h : List Float) → length p ≡ 2 → {a b : Bool} → a ≡ at p 0 → b ≡ at p 1 → ending a b ≡ true → row_at level floor (p ++ h) ≡ []
  row_ends p h n x y e = rw (row_pair p h n x y, e)

  pub row_goes : (p h : List Float) → length p ≡ 2 → {a b : Bool} → a ≡ at p 0 → b ≡ at p 1 → ending a b ≡ false
      → row_at level floor (p ++ h) ≡ bit_of a b ∷ row_at level floor h
  row_goes p h n x y e = rw (row_pair p h n x y, e)

  -- .. a half alone is no bit
  pub row_done : (h : List Float) → length h ≤ 1 → row_at level floor h ≡ []
  unfolding row_at
  row_done [] l = refl
  row_done (a ∷ []) l = refl
  row_done (a ∷ b ∷ h) l = absurd (omega arith)
