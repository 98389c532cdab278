-- `card_link::whole::take_outside` meets its contract, by that of `take_rules` of crate card. Assumes nothing.
use Rattle.card_link.specs.WholeLaws.{outside_made}
use Rattle.card_link.proofs.whole.take_outside.Goals as goal

pub returns : goal.returns
returns c = let a = c.args in let both = outside_made a.x a.row.now a.out.now _ c.take_rules-t.result c.link_in.result c.bits_in.result (c.take_rules-t.ensures.value, c.take_rules-t.ensures.out_after) c.link_in.ensures c.bits_in.ensures in record { value = both.0; out_after = both.1 }
