-- `kept_b::within::keep_card` meets its contract, by the law `Kept-back`. Assumes nothing.
use Rattle.kept_b.specs.KeptCardBLaws.{card_put}
use Rattle.kept_b.proofs.within.keep_card.Goals as goal

pub returns : goal.returns
returns c = let both = card_put c.args.state.now _ c.args.c _ c.card_bytes-card.ensures.value c.card_bytes-card.ensures.fits c.put.ensures in record { state_after = both.0; state_after_2 = both.1 }
