use borrow.Author.Tests.{lt-ltb, le-ltb}
use Rattle.trace_rules.specs.Trace.{ends, content}
use mathlib.Core.Path.{ap}
use Rattle.trace.proofs.walk.ends.Goals as goal

pub returns-then-at-log : goal.returns-then-at-log
unfolding ends
returns-then-at-log c = rw (lt-ltb _ _ c.if-at-log.true) c.faults.ensures

pub returns : goal.returns
unfolding ends
returns c = rw (le-ltb _ _ c.if-at-log.false) (ap content c.onward.ensures)
