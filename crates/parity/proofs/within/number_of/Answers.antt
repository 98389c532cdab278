use mathlib.Core.Path.{◌≡◌, refl}
use mathlib.Core.List.{List, [], ◌∷◌, ◌++◌, append-nil}
use Prim.Native.Nat.{ℕ, ◌+◌, ◌*◌, ◌<◌, ◌≤◌}
use mathlib.Core.Bool.{true}
use Rattle.rows.specs.Rows.{clean}
use lib.ListN.{length}
use native.Mathlib.Omega.{arith}
use borrow.Author.Rules.{rules}
use Rattle.parity.specs.Bits.{unbits}
use Rattle.parity.specs.LoopLaws.{unbits_part, part_next}
use Rattle.parity.proofs.within.number_of.Goals as goal

pub loop-bit-init : goal.loop-bit-init
unfolding unbits
loop-bit-init c = (tt, tt, ([], rw append-nil (search rules), refl))

-- the number of the bit that is taken and of those behind it is a byte
taken : (l p q t : List ℕ) (x v : ℕ) → (length l ≤ 8) × (clean l ≡ true) → p ≡ q ++ (x ∷ []) → p ++ t ≡ l → v ≡ unbits t → 2 * v + x < 256
unfolding unbits
taken l p q t x v h e k m = omega (arith, unbits_part l q (x ∷ t) h (part_next l p q t x e k), m)

pub overflow_mul-v : goal.overflow_mul-v
overflow_mul-v c = let v = c.loop-bit.invariant.2 in
    omega (arith, taken _ _ _ v.0 c.in-Some.bit.now c.loop-bit.v c.requires c.in-Some.ensures.steps v.1 v.2)

pub overflow_add-v : goal.overflow_add-v
overflow_add-v c = let v = c.loop-bit.invariant.2 in
    omega (arith, taken _ _ _ v.0 c.in-Some.bit.now c.loop-bit.v c.requires c.in-Some.ensures.steps v.1 v.2)

pub loop-bit-preserved : goal.loop-bit-preserved
unfolding unbits
loop-bit-preserved c = let v = c.loop-bit.invariant.2 in
    (tt, tt, (c.in-Some.bit.now ∷ v.0, part_next _ _ _ _ _ c.in-Some.ensures.steps v.1, omega (arith, v.2)))

nothing_left : (l p t : List ℕ) → length p ≡ 0 → p ++ t ≡ l → t ≡ l
nothing_left l [] t z e = e
nothing_left l (x ∷ p) t z e = absurd (omega arith)
