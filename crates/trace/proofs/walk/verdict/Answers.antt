use mathlib.Core.Path.{ap, ◌∙◌}
use Rattle.trace_rules.specs.Trace.{checked}
use Rattle.trace.proofs.walk.verdict.Goals as goal

pub returns-in-Goes : goal.returns-in-Goes
returns-in-Goes c = rw c.in-Goes.is (c.checked.ensures ∙ ap (λ v. checked v c.args.s.place) c.fault.ensures)

pub returns-in-Content : goal.returns-in-Content
returns-in-Content c = rw c.in-Content.is c.checked-in-Content.ensures

pub returns-in-Faults : goal.returns-in-Faults
returns-in-Faults c = rw c.in-Faults.is (c.checked-in-Faults.ensures ∙ ap (λ v. checked v c.args.s.place) c.fault-in-Faults.ensures)
