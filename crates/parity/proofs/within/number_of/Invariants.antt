-- `parity::within::number_of` meets its contract. The loop's invariant: v is the number of the bits behind those that are left. Assumes nothing.
use mathlib.Core.Path.{◌≡◌}
use mathlib.Core.List.{List, ◌++◌}
use Prim.Native.Nat.{ℕ}
use Rattle.std.specs.Slice.Iter.{iter_rest}
use Rattle.parity.specs.Bits.{unbits}
use Rattle.parity.proofs.within.number_of.Given as goal

abbrev pub invariant-loop-bit : goal.invariant-loop-bit
invariant-loop-bit l =
    (goal.iterator-loop-bit).can_next l.bit-iterator × (goal.iterator-loop-bit).is_finite l.bit-iterator ×
    ((t : List ℕ) × (iter_rest l.bit-iterator.iter ++ t ≡ l.bits) × (l.v ≡ unbits t))
