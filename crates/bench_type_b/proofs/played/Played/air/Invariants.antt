-- `bench_type_b::played::Played::air` meets its contract. The loop's invariant: what is heard so far fits the lent row. Assumes nothing.
use Prim.Native.Nat.{◌≤◌}
use mathlib.Core.Path.{◌≡◌}
use lib.ListN.{length}
use Rattle.bench_type_b.proofs.played.Played.air.Given as goal

abbrev pub invariant-loop-drawn : goal.invariant-loop-drawn
invariant-loop-drawn l = (length l.heard ≡ 112) × (l.bits ≤ 112)
