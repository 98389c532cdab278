-- `card::ready::chosen` meets its contract: the definition has the same test. Assumes nothing.
use mathlib.Core.Path.{sym, ap, ◌∙◌}
use Rattle.card.specs.Card.{ready_in, chosen}
use Rattle.card.proofs.ready.chosen.Goals as goal

pub returns-then-remains : goal.returns-then-remains
unfolding chosen
returns-then-remains c = rw (sym c.remains.ensures ∙ c.if-remains.true)
    (c.ready_in.ensures ∙ ap (ready_in c.args.woken) c.next_level.ensures)

pub returns-else-remains : goal.returns-else-remains
unfolding chosen
returns-else-remains c = rw (sym c.remains.ensures ∙ c.if-remains.false) c.active_in.ensures
