use borrow.Author.Tests.{lt-ltb, le-ltb}
use Rattle.sweep_steps.specs.Steps.{goes_on}
use Rattle.sweep_steps.proofs.within.goes_on.Goals as goal

pub returns-then-p-lt-MOST_FRAMES : goal.returns-then-p-lt-MOST_FRAMES
unfolding goes_on
returns-then-p-lt-MOST_FRAMES c = rw (lt-ltb _ _ c.if-p-lt-MOST_FRAMES.true) c.goes.ensures

pub returns-else-p-lt-MOST_FRAMES : goal.returns-else-p-lt-MOST_FRAMES
unfolding goes_on
returns-else-p-lt-MOST_FRAMES c = rw (le-ltb _ _ c.if-p-lt-MOST_FRAMES.false)
