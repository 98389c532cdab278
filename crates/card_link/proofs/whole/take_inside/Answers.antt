-- `card_link::whole::take_inside` meets its contract, by those of `hear_row` and `finish`. Assumes nothing.
use Rattle.card_link.specs.WholeLaws.{inside_made}
use Rattle.card_link.proofs.whole.take_inside.Goals as goal

pub returns : goal.returns
returns c = let a = c.args in let both = inside_made a.x a.row.now a.answer.now a.buffer.now a.out.now c.hear_row-step.result (c.hear_row-step.ensures.value, c.hear_row-step.ensures.buffer_after) (c.finish.ensures.value, c.finish.ensures.out_after) in record { value = both.0; buffer_after = both.1.0; out_after = both.1.1 }
