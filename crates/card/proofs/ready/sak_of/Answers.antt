-- `card::ready::sak_of` meets its contract: the definition has the same tests. Assumes nothing.
use mathlib.Core.Path.{sym, ◌∙◌}
use Rattle.card.specs.Card.{sak}
use Rattle.card.proofs.ready.sak_of.Goals as goal

pub returns-then-remains : goal.returns-then-remains
unfolding sak
returns-then-remains c = rw (sym c.remains.ensures ∙ c.if-remains.true)

pub returns-then-c : goal.returns-then-c
unfolding sak
returns-then-c c = rw (sym c.remains.ensures ∙ c.if-remains.false, c.if-c.true)

pub returns-else-c : goal.returns-else-c
unfolding sak
returns-else-c c = rw (sym c.remains.ensures ∙ c.if-remains.false, c.if-c.false)
