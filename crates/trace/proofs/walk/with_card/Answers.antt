use Rattle.trace.proofs.walk.with_card.Goals as goal

pub returns : goal.returns
returns c = rw c.listed.ensures
