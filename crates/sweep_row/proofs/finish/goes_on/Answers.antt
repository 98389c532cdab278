use borrow.Author.Tests.{lt-ltb, le-ltb}
use Rattle.sweep_row.specs.Row.{goes_on}
use Rattle.sweep_row.proofs.finish.goes_on.Goals as goal

pub returns-then-s-lt-MOST_FRAMES : goal.returns-then-s-lt-MOST_FRAMES
unfolding goes_on
returns-then-s-lt-MOST_FRAMES c = rw (lt-ltb _ _ c.if-s-lt-MOST_FRAMES.true) c.goes.ensures

pub returns-else-s-lt-MOST_FRAMES : goal.returns-else-s-lt-MOST_FRAMES
unfolding goes_on
returns-else-s-lt-MOST_FRAMES c = rw (le-ltb _ _ c.if-s-lt-MOST_FRAMES.false)
