-- `lacrivosum::type_b::lac_b_held` meets its contract, by that of `held_of`. Assumes nothing.
use Rattle.lacrivosum.proofs.type_b.lac_b_held.Goals as goal

pub returns : goal.returns
returns c = c.held_of.ensures
