-- `field::within::take_all` meets its contract. The loop's invariant: the cards from i on have taken the frame, and what is heard of them stands at the row's front. Assumes nothing.
use Prim.Native.Nat.{◌≤◌}
use mathlib.Core.Path.{◌≡◌}
use lib.ListN.{length}
use Rattle.limits.specs.Limits.{most_cards}
use Rattle.field.specs.TakeLaws.{Under}
use Rattle.field.proofs.within.take_all.Given as goal

abbrev pub invariant-loop-i : goal.invariant-loop-i
invariant-loop-i l = (l.i ≤ l.n) × (length l.cards ≡ most_cards) × (length l.initial.cards ≡ most_cards) × (length l.heard ≡ length l.initial.heard) × Under l.initial.heard l.initial.cards l.n l.frame l.heard l.cards l.bits l.i

abbrev pub decreases-loop-i : goal.decreases-loop-i
decreases-loop-i l = l.i
