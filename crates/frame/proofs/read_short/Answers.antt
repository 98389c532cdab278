-- `frame::read_short` meets its contract: the definition has the same tests. Assumes nothing.
use mathlib.Core.Path.{sym, ◌∙◌}
use borrow.Author.Tests.{eq-eqb, ne_eqb}
use Rattle.frame.specs.Calls.{read_short}
use Rattle.frame.proofs.read_short.Goals as goal

pub returns-then-row-ne7 : goal.returns-then-row-ne7
unfolding read_short
returns-then-row-ne7 c = simp (ne_eqb _ _ c.if-row-ne7.true)

pub returns-then-not-is_clean : goal.returns-then-not-is_clean
unfolding read_short
returns-then-not-is_clean c = simp (eq-eqb _ _ c.if-row-ne7.false, sym c.is_clean.ensures ∙ c.if-not-is_clean.true)

pub returns : goal.returns
unfolding read_short
returns c = simp (eq-eqb _ _ c.if-row-ne7.false, sym c.is_clean.ensures ∙ c.if-not-is_clean.false, c.number_of.ensures)
