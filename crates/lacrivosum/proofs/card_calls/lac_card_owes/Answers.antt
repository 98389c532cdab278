-- `lacrivosum::card_calls::lac_card_owes` meets its contract, by those of its parts. Assumes nothing.
use Rattle.lacrivosum.proofs.card_calls.lac_card_owes.Goals as goal

pub returns : goal.returns
returns c = rw (c.flag.ensures, c.is_owing.ensures, c.link_card_of.ensures)
