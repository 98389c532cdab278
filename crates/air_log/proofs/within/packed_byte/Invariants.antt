-- `air_log::within::packed_byte` meets its contract. The loop's invariant: v is the number of the bits passed. Assumes nothing.
use Prim.Native.Nat.{◌≤◌, ◌-◌}
use mathlib.Core.Path.{◌≡◌}
use lib.ListN.{take, drop}
use Rattle.air_log.specs.Log.{from_top}
use Rattle.air_log.specs.Calls.{is_marks, shown}
use Rattle.air_log.proofs.within.packed_byte.Given as goal

abbrev pub invariant-loop-j : goal.invariant-loop-j
invariant-loop-j l = (l.j ≤ 8) × (l.v ≡ from_top l.j (take l.j (drop l.from (shown (is_marks l.part) l.row))))

abbrev pub decreases-loop-j : goal.decreases-loop-j
decreases-loop-j l = 8 - l.j
