-- `air_log::reading::is_apart` meets its contract. The loop's invariant: what is left does not clash exactly where nothing does. Assumes nothing.
use Prim.Native.Nat.{◌≤◌, ◌-◌}
use mathlib.Core.Path.{◌≡◌}
use lib.ListN.{take, drop}
use Rattle.air_log.specs.Reading.{bits_from, row_at, apart}
use Rattle.air_log.proofs.reading.is_apart.Given as goal

abbrev pub invariant-loop-i : goal.invariant-loop-i
invariant-loop-i l =
    (l.i ≤ l.n) × (apart (take (l.n - l.i) (drop l.i (bits_from l.log l.start))) (take (l.n - l.i) (drop l.i (bits_from l.log l.marks))) ≡ apart (row_at l.log l.start l.n) (row_at l.log l.marks l.n))

abbrev pub decreases-loop-i : goal.decreases-loop-i
decreases-loop-i l = l.n - l.i
