-- `field::within::meet` meets its contract. Assumes nothing.
use borrow.Author.Tests.{eq-eqb, ne_eqb}
use Rattle.field.specs.Merge.{meet}
use Rattle.field.proofs.within.meet.Goals as goal

pub returns-then-x-y : goal.returns-then-x-y
unfolding meet
returns-then-x-y c = simp (eq-eqb _ _ c.if-x-y.true)

pub returns-else-x-y : goal.returns-else-x-y
unfolding meet
returns-else-x-y c = simp (ne_eqb _ _ c.if-x-y.false)
