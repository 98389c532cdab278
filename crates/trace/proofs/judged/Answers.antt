use Rattle.trace.proofs.judged.Goals as goal

pub returns : goal.returns
returns c = rw c.replay.ensures
