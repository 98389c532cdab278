-- `card::rats::is_rats` meets its contract: RATS has 36 bits and an FSDI below 16. Assumes nothing.
use mathlib.Core.Path.{sym, ◌∙◌}
use native.Mathlib.Omega.{arith}
use borrow.Author.Tests.{lt-leb}
use Rattle.card.specs.RatsLaws.{not_rats, not_fsdi}
use Rattle.card.proofs.rats.is_rats.Goals as goal

pub returns-then-row-ne36 : goal.returns-then-row-ne36
returns-then-row-ne36 c = sym (not_rats c.args.row.now (omega arith))

pub returns-else-i-le15 : goal.returns-else-i-le15
returns-else-i-le15 c = lt-leb _ _ c.if-i-le15.false ∙ sym (not_fsdi c.args.row.now (omega (arith, c.fsdi-i.ensures)))
