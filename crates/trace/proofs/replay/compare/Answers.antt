use mathlib.Core.Path.{sym, ◌∙◌}
use Rattle.trace_rules.specs.Check.{compared}
use Rattle.trace.proofs.replay.compare.Goals as goal

pub returns-in-Ok : goal.returns-in-Ok
unfolding compared
returns-in-Ok c = rw (sym c.sent_at.ensures ∙ c.in-Ok.is) c.heard_as.ensures

pub returns-in-Err : goal.returns-in-Err
unfolding compared
returns-in-Err c = rw (sym c.sent_at.ensures ∙ c.in-Err.is)
