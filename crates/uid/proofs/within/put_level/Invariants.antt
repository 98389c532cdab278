-- `uid::within::put_level` meets its contract. The loop's invariant: the bits of the bytes passed are written. Assumes nothing.
use Prim.Native.Nat.{◌≤◌, ◌-◌}
use mathlib.Core.Path.{◌≡◌}
use lib.ListN.{length, take}
use Rattle.rows.specs.Rows.{overlay}
use Rattle.frame.specs.Frame.{air_bits}
use Rattle.uid.proofs.within.put_level.Given as goal

abbrev pub invariant-loop-i : goal.invariant-loop-i
invariant-loop-i l = (l.i ≤ 5) × (length l.b-items ≡ 5) × (length l.out ≡ length l.initial.out) × (l.out ≡ overlay l.initial.out l.at (air_bits (take l.i l.b-items)))

abbrev pub decreases-loop-i : goal.decreases-loop-i
decreases-loop-i l = 5 - l.i
