-- `field::within::join` meets its contract. The loop's invariant: the first i bits of both rows together stand at the row's front. Assumes nothing.
use Prim.Native.Nat.{◌≤◌, ◌-◌}
use mathlib.Core.Path.{◌≡◌}
use lib.ListN.{length, take}
use Rattle.rows.specs.Rows.{overlay}
use Rattle.field.specs.Merge.{join}
use Rattle.field.proofs.within.join.Given as goal

abbrev pub invariant-loop-i : goal.invariant-loop-i
invariant-loop-i l = (l.i ≤ length l.answer) × (length l.row ≡ length l.initial.row) × (l.row ≡ overlay l.initial.row 0 (take l.i (join l.answer (take l.bits l.initial.row))))

abbrev pub decreases-loop-i : goal.decreases-loop-i
decreases-loop-i l = length l.answer - l.i
