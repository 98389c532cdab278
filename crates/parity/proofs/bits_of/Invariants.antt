-- `parity::bits_of` meets its contract. The loop's invariant: the first bits stand in the array, and the others are those of x. Assumes nothing.
use Prim.Native.Nat.{◌≤◌, ◌-◌}
use mathlib.Core.Path.{◌≡◌}
use mathlib.Core.List.{◌++◌}
use lib.ListN.{length, take}
use Rattle.parity.specs.Bits.{bits_of}
use Rattle.parity.proofs.bits_of.Given as goal

abbrev pub invariant-loop-bit : goal.invariant-loop-bit
invariant-loop-bit l =
    (l.bit-index ≤ 8) × (length l.bit-items ≡ 8) × (take l.bit-index l.bit-items ++ bits_of (8 - l.bit-index) l.x ≡ bits_of 8 l.b)
