-- `kept_card::within::keep` meets its contract, by the law `settled`. Assumes nothing.
use Rattle.kept_card.proofs.KeptWholeLaws.{settled}
use borrow.Author.Rules.{rules}
use Rattle.kept_card.proofs.within.keep.Goals as goal

pub returns : goal.returns
returns c = let both = settled c.args.t c.args.state.now _ _ _ _ _ _ (search rules) c.card_bytes-card.ensures.value c.card_bytes-card.ensures.bytes_len c.link_bytes-link.ensures.value c.link_bytes-link.ensures.sized c.told_bytes-news.ensures.value c.told_bytes-news.ensures.t_bound c.put.ensures c.put-2.ensures c.put-3.ensures in record { state_after = both.0; state_after_2 = both.1 }
