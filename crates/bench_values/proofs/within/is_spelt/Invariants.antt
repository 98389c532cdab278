-- `bench_values::within::is_spelt` meets its contract. The loop's invariant: the letters from i on stand for something exactly where all do. Assumes nothing.
use mathlib.Core.Path.{◌≡◌}
use lib.ListN.{drop}
use Rattle.bench_values.specs.Values.{spelt}
use Rattle.bench_values.proofs.within.is_spelt.Given as goal

abbrev pub invariant-loop-c : goal.invariant-loop-c
invariant-loop-c l = spelt l.a (drop l.c-index l.word) ≡ spelt l.a l.word
