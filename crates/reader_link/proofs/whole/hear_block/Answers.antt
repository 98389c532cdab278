-- `reader_link::whole::hear_block` meets its contract, by those of `hear_row` and `finish`. Assumes nothing.
use Rattle.reader_link.specs.WholeLaws.{block_made}
use Rattle.reader_link.proofs.whole.hear_block.Goals as goal

pub returns : goal.returns
returns c = let a = c.args in let both = block_made a.r a.l a.row.now a.message.now a.buffer.now a.out.now c.hear_row-step.result (c.hear_row-step.ensures.value, c.hear_row-step.ensures.buffer_after) (c.finish.ensures.value, c.finish.ensures.out_after) in record { value = both.0; buffer_after = both.1.0; out_after = both.1.1 }
