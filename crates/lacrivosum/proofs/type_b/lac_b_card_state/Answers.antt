-- `lacrivosum::type_b::lac_b_card_state` meets its contract, by those of its parts. Assumes nothing.
use Rattle.lacrivosum.proofs.type_b.lac_b_card_state.Goals as goal

pub returns : goal.returns
returns c = rw (c.state_tag.ensures, c.card_of.ensures)
