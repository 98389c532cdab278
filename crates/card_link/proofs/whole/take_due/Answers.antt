-- `card_link::whole::take_due` meets its contract, by the card's state. Assumes nothing.
use mathlib.Core.Path.{refl}
use Rattle.card_link.specs.WholeLaws.{due_outside}
use Rattle.card_link.proofs.CallLaws.{takes_outside_law}
use Rattle.card_link.proofs.whole.take_due.Goals as goal

pub returns-in_default : goal.returns-in_default
returns-in_default c = let a = c.args in
    let k = takes_outside_law a.x a.x.card.state a.row.now a.answer.now a.buffer.now c.in_default.not-Protocol in
    let both = due_outside a.x a.row.now a.answer.now a.buffer.now a.out.now refl k (c.take_outside.ensures.value, c.take_outside.ensures.out_after) in
    record { value = both.0; buffer_after = both.1.0; out_after = both.1.1 }
