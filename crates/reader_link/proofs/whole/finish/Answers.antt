-- `reader_link::whole::finish` meets its contract, by those of `sent` and `put_block`. Assumes nothing.
use Rattle.block.specs.AirLaws.{sent_most}
use Rattle.reader_link.specs.WholeLaws.{finished}
use Rattle.reader_link.proofs.whole.finish.Goals as goal

pub put_block-bits-requires : goal.put_block-bits-requires
put_block-bits-requires c = let a = c.args in
    (sent_most c.sent.result a.step.send a.step.link.card a.step.link.at a.message.now c.sent.ensures, c.requires)

pub returns : goal.returns
returns c = let a = c.args in let both = finished a.r a.step a.message.now a.out.now _ c.sent.result c.linked.result c.put_block-bits.result c.sent.ensures c.linked.ensures (c.put_block-bits.ensures.value, c.put_block-bits.ensures.out_after) in record { value = both.0; out_after = both.1 }
