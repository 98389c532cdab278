-- `uid::within::put_levels` meets its contract. The loop's invariant: the levels passed are written, 40 bits each. Assumes nothing.
use Prim.Native.Nat.{◌≤◌, ◌*◌, ◌-◌}
use mathlib.Core.Path.{◌≡◌}
use mathlib.Core.List.{map}
use lib.ListN.{length, take}
use Rattle.rows.specs.Rows.{overlay}
use Rattle.frame.specs.Frame.{air_bits}
use Rattle.uid.specs.Uid.{air}
use Rattle.uid.proofs.within.put_levels.Given as goal

abbrev pub invariant-loop-i : goal.invariant-loop-i
invariant-loop-i l =
    (l.i ≤ length l.rows) × (length l.out ≡ length l.initial.out) × (length (air (map air_bits (take l.i l.rows))) ≡ 40 * l.i)
    × (l.out ≡ overlay l.initial.out 0 (air (map air_bits (take l.i l.rows))))

abbrev pub decreases-loop-i : goal.decreases-loop-i
decreases-loop-i l = length l.rows - l.i
