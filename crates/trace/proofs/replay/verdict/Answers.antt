use borrow.Author.Tests.{le-leb, lt-leb}
use Rattle.trace.proofs.replay.verdict.Goals as goal

pub returns-then-at-size : goal.returns-then-at-size
returns-then-at-size c = rw (c.in-Ok.is, lt-leb _ _ c.if-at-size.true) c.fault.ensures

pub returns-else-at-size : goal.returns-else-at-size
returns-else-at-size c = rw (c.in-Ok.is, le-leb _ _ c.if-at-size.false)
