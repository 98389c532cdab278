use mathlib.Core.Path.{◌≡◌}
use Prim.Native.Nat.{◌*◌, ◌-◌, ◌≤◌}
use lib.ListN.{length}
use Rattle.limits.specs.Limits.{most_cards, most_frames}
use Rattle.trace.specs.ReplayLaws.{left}
use Rattle.trace.proofs.replay.replay.Given as goal

abbrev pub invariant-loop-p : goal.invariant-loop-p
invariant-loop-p l = (1 ≤ l.frames) × (l.frames ≤ most_frames) × (length l.p.cards ≡ most_cards) × (left (most_frames - l.frames) l.stamp l.log (2 * (l.frames - 1)) l.p l.n ≡ left (most_frames - 1) l.stamp l.log 0 l.initial.p l.n)

abbrev pub decreases-loop-p : goal.decreases-loop-p
decreases-loop-p l = most_frames - l.frames
