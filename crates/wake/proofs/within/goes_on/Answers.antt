-- `wake::within::goes_on` meets its contract: the definition has the same tests. Assumes nothing.
use borrow.Author.Tests.{lt-ltb, le-ltb}
use Rattle.wake.specs.Steps.{goes_on}
use Rattle.wake.proofs.within.goes_on.Goals as goal

pub returns-then-w-most : goal.returns-then-w-most
unfolding goes_on
returns-then-w-most c = rw (lt-ltb _ _ c.if-w-most.true) c.goes.ensures

pub returns-else-w-most : goal.returns-else-w-most
unfolding goes_on
returns-else-w-most c = rw (le-ltb _ _ c.if-w-most.false)
