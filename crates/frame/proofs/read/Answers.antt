-- `frame::read` meets its contract, by that of `read_within`: what it answers, in the table's numbers. Assumes nothing.
use mathlib.Core.Path.{ap, ◌∙◌}
use Rattle.frame.proofs.SaysLaws.{says_read}
use Rattle.frame.proofs.read.Goals as goal
use Rattle.refusal.specs.Refusal.{number_says}

pub returns : goal.returns
returns c = record { result_value = ap number_says c.read_within.ensures.value ∙ says_read _ _; out_after = c.read_within.ensures.out_after }
