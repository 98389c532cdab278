-- `lacrivosum::delays::lac_delay` meets its contract, by that of crate delay's judge. Assumes nothing.
use mathlib.Core.Path.{ap, ◌∙◌}
use mir.Syntax.{w64}
use mir.ValLaws.{to_z-of_z}
use Rattle.lacrivosum.specs.Delays.{delay_number}
use borrow.Author.Rules.{rules}
use Rattle.lacrivosum.proofs.delays.lac_delay.Goals as goal

pub returns : goal.returns
returns c = to_z-of_z w64 c.off_number.result (search rules) ∙ c.off_number.ensures ∙ ap delay_number c.judge_row.ensures
