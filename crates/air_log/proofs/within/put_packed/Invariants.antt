-- `air_log::within::put_packed` meets its contract. The loop's invariant: the bytes passed are written. Assumes nothing.
use Prim.Native.Nat.{◌≤◌, ◌-◌}
use mathlib.Core.Path.{◌≡◌}
use lib.ListN.{length}
use Rattle.rows.specs.Rows.{overlay}
use Rattle.air_log.specs.Log.{packed}
use Rattle.air_log.specs.Calls.{is_marks, shown, row_size}
use Rattle.air_log.proofs.within.put_packed.Given as goal

abbrev pub invariant-loop-k : goal.invariant-loop-k
invariant-loop-k l = (l.k ≤ row_size (length l.row)) × (length l.out ≡ length l.initial.out) × (l.out ≡ overlay l.initial.out l.at (packed l.k (shown (is_marks l.part) l.row)))

abbrev pub decreases-loop-k : goal.decreases-loop-k
decreases-loop-k l = row_size (length l.row) - l.k
