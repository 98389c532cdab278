use Prim.Native.Nat.{◌≤◌, ◌-◌}
use mathlib.Core.Path.{◌≡◌}
use lib.ListN.{length, take}
use Rattle.rows.specs.Rows.{overlay}
use Rattle.frame.specs.Frame.{data_of}
use Rattle.selection.proofs.level.data_bits.Given as goal

abbrev pub invariant-loop-i : goal.invariant-loop-i
invariant-loop-i l = (l.i ≤ 40) × (length l.bit-items ≡ 40) × (length l.w ≡ 45) × (l.bit-items ≡ overlay l.initial.bit-items 0 (take l.i (data_of 5 l.w))) × (length l.initial.bit-items ≡ 40)

abbrev pub decreases-loop-i : goal.decreases-loop-i
decreases-loop-i l = 40 - l.i
