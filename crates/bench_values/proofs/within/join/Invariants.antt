-- `bench_values::within::join` meets its contract. The loop's invariant: v and the digits from i on make the number, and v has at most i digits. Assumes nothing.
use Prim.Native.Nat.{◌<◌, ◌^◌}
use mathlib.Core.Path.{◌≡◌}
use lib.ListN.{drop}
use Rattle.bench_values.specs.Values.{joined}
use Rattle.bench_values.proofs.within.join.Given as goal

abbrev pub invariant-loop-c : goal.invariant-loop-c
invariant-loop-c l = (joined l.v (drop l.c-index l.word) ≡ joined 0 l.word) × (l.v < 10 ^ l.c-index)
