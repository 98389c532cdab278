-- `card_link::whole::finish` meets its contract, by those of `sent` and `put_block`. Assumes nothing.
use Rattle.block.specs.AirLaws.{sent_most}
use Rattle.card_link.specs.WholeLaws.{finished}
use Rattle.card_link.proofs.whole.finish.Goals as goal

pub put_block-requires : goal.put_block-requires
put_block-requires c = let a = c.args in
    (sent_most c.sent.result a.step.send a.step.link.reader a.step.link.at a.answer.now c.sent.ensures, c.requires)

pub returns : goal.returns
returns c = let a = c.args in let both = finished a.card a.step a.answer.now a.out.now _ c.sent.result c.left_by.result c.put_block.result c.sent.ensures c.left_by.ensures (c.put_block.ensures.value, c.put_block.ensures.out_after) in record { value = both.0; out_after = both.1 }
