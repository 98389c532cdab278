-- `bench::word` meets its contract. The loop's invariant: i words are passed. Assumes nothing.
use Prim.Native.Nat.{◌≤◌, ◌-◌}
use mathlib.Core.Path.{◌≡◌}
use lib.ListN.{length, drop}
use Rattle.bench.specs.Words.{word_at}
use Rattle.bench.proofs.word.Given as goal

abbrev pub invariant-loop-i : goal.invariant-loop-i
invariant-loop-i l = (l._i ≤ l.k) × (l.at ≤ length l.text) × (word_at (l.k - l._i) (drop l.at l.text) ≡ word_at l.k l.text)

abbrev pub decreases-loop-i : goal.decreases-loop-i
decreases-loop-i l = l.k - l._i
