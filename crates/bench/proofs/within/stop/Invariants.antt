-- `bench::within::stop` meets its contract. The loop's invariant: the letters so far and those that are left are the run. Assumes nothing.
use Prim.Native.Nat.{◌≤◌, ◌-◌}
use mathlib.Core.Path.{◌≡◌}
use mathlib.Core.List.{◌++◌}
use lib.ListN.{length, take, drop}
use Rattle.bench.specs.Words.{after_run, first_run}
use Rattle.bench.proofs.within.stop.Given as goal

abbrev pub invariant-loop-i : goal.invariant-loop-i
invariant-loop-i l = (l.from ≤ l.i) × (l.i ≤ length l.text) × (after_run (drop l.i l.text) ≡ after_run (drop l.from l.text)) × (take (l.i - l.from) (drop l.from l.text) ++ first_run (drop l.i l.text) ≡ first_run (drop l.from l.text))

abbrev pub decreases-loop-i : goal.decreases-loop-i
decreases-loop-i l = length l.text - l.i
