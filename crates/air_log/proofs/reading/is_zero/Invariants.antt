-- `air_log::reading::is_zero` meets its contract. The loop's invariant: the bits left are all 0 exactly where all are. Assumes nothing.
use Prim.Native.Nat.{◌≤◌, ◌-◌}
use mathlib.Core.Path.{◌≡◌}
use lib.ListN.{take, drop}
use Rattle.air_log.specs.Reading.{bits_from, zeros}
use Rattle.air_log.proofs.reading.is_zero.Given as goal

abbrev pub invariant-loop-i : goal.invariant-loop-i
invariant-loop-i l =
    (l.from ≤ l.i) × (l.i ≤ l.to) × (zeros (take (l.to - l.i) (drop l.i (bits_from l.log l.start))) ≡ zeros (take (l.to - l.from) (drop l.from (bits_from l.log l.start))))

abbrev pub decreases-loop-i : goal.decreases-loop-i
decreases-loop-i l = l.to - l.i
