use mathlib.Core.Path.{ap, ◌∙◌}
use Rattle.trace_rules.specs.Trace.{goes, turned}
use Rattle.trace.proofs.walk.turned.Goals as goal

pub returns-in-Sends : goal.returns-in-Sends
unfolding turned
returns-in-Sends c = rw c.in-Sends.is (c.goes.ensures ∙ ap goes c.onward.ensures)

pub returns-in-Finds : goal.returns-in-Finds
unfolding turned
returns-in-Finds c = rw c.in-Finds.is c.lists.ensures

pub returns-in-Selects : goal.returns-in-Selects
unfolding turned
returns-in-Selects c = rw c.in-Selects.is c.faults.ensures

pub returns-in-Finishes : goal.returns-in-Finishes
unfolding turned
returns-in-Finishes c = rw c.in-Finishes.is c.ends.ensures

pub returns-in-Declines : goal.returns-in-Declines
unfolding turned
returns-in-Declines c = rw c.in-Declines.is c.faults-in-Declines.ensures
