use mathlib.Core.Path.{◌≡◌}
use Prim.Native.Nat.{◌*◌, ◌-◌, ◌≤◌}
use lib.ListN.{length}
use Rattle.trace.specs.WalkLaws.{left}
use Rattle.trace.proofs.walk.walk.Given as goal

abbrev pub invariant-loop-s : goal.invariant-loop-s
invariant-loop-s l = (l.turn ≤ length l.log) × (left (length l.log - l.turn) l.stamp l.log (2 * l.turn) l.s ≡ left (length l.log) l.stamp l.log 0 l.initial.s)

abbrev pub decreases-loop-s : goal.decreases-loop-s
decreases-loop-s l = length l.log - l.turn
