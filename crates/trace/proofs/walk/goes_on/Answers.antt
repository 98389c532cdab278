use borrow.Author.Tests.{lt-ltb, le-ltb}
use Rattle.trace.specs.Loops.{goes_on}
use Rattle.trace.proofs.walk.goes_on.Goals as goal

pub returns-then-turn-most : goal.returns-then-turn-most
unfolding goes_on
returns-then-turn-most c = rw (lt-ltb _ _ c.if-turn-most.true) c.is_going.ensures

pub returns-else-turn-most : goal.returns-else-turn-most
unfolding goes_on
returns-else-turn-most c = rw (le-ltb _ _ c.if-turn-most.false)
