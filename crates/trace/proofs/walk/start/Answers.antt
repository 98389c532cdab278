use Rattle.trace_rules.specs.Trace.{start}
use Rattle.trace.proofs.walk.start.Goals as goal

pub returns : goal.returns
unfolding start
returns c = rw (c.blank.ensures, c.no_card.ensures)
