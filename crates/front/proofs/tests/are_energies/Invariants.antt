-- `front::tests::are_energies` meets its contract. The loop's invariant: the halves that are left are energies exactly where all are.
-- Assumes nothing.
use Prim.Native.Nat.{◌≤◌}
use mathlib.Core.Path.{◌≡◌}
use lib.ListN.{length, drop}
use Rattle.front.specs.Front.{energies}
use Rattle.front.proofs.tests.are_energies.Given as goal

abbrev pub invariant-loop-x : goal.invariant-loop-x
invariant-loop-x l = (l.x-index ≤ length l.halves) × (energies (drop l.x-index l.halves) ≡ energies l.halves)
