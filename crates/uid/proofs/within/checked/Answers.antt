-- `uid::within::checked` meets its contract. Assumes nothing.
use mathlib.Core.Path.{sym, ◌∙◌}
use Rattle.uid.specs.Calls.{checked}
use Rattle.uid.proofs.within.checked.Goals as goal

pub returns-then-is_valid : goal.returns-then-is_valid
unfolding checked
returns-then-is_valid c = rw (sym c.is_valid.ensures ∙ c.if-is_valid.true)

pub returns-else-is_valid : goal.returns-else-is_valid
unfolding checked
returns-else-is_valid c = rw (sym c.is_valid.ensures ∙ c.if-is_valid.false)
