-- `tag::within::put_shown` meets its contract. The loop's invariant: the first i blocks are written. Assumes nothing.
use Prim.Native.Nat.{◌≤◌, ◌+◌, ◌-◌, ◌*◌}
use mathlib.Core.Path.{◌≡◌}
use lib.ListN.{length}
use Rattle.rows.specs.Rows.{overlay}
use Rattle.frame.specs.Frame.{air_bits}
use Rattle.tag.specs.Memory.{shown_from}
use Rattle.tag.proofs.within.put_shown.Given as goal

abbrev pub invariant-loop-i : goal.invariant-loop-i
invariant-loop-i l = (l.i ≤ l.count) × (l.at ≡ 1 + length (shown_from l.status l.size l.memory l.locks l.first l.i)) × (l.at ≤ 1 + l.i * (l.size + 1)) × (length l.out ≡ length l.initial.out) × (l.out ≡ overlay l.initial.out 8 (air_bits (shown_from l.status l.size l.memory l.locks l.first l.i)))

abbrev pub decreases-loop-i : goal.decreases-loop-i
decreases-loop-i l = l.count - l.i
