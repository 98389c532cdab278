use mathlib.Core.Path.{ap₂, ◌∙◌}
use Rattle.trace_rules.specs.Trace.{checked}
use Rattle.trace_rules.specs.Check.{refused}
use Rattle.trace.proofs.refused.Goals as goal

pub returns : goal.returns
unfolding refused
returns c = c.checked.ensures ∙ ap₂ checked c.fault.ensures c.start.ensures
