-- `uid::is_valid` meets its contract, size by size. Assumes nothing.
use Rattle.uid.specs.Uid.{valid}
use Rattle.uid.proofs.is_valid.Goals as goal

pub returns-in-Single : goal.returns-in-Single
unfolding valid
returns-in-Single c = rw c.in-Single.is

pub returns-in-Double : goal.returns-in-Double
unfolding valid
returns-in-Double c = rw c.in-Double.is

pub returns-in-Triple : goal.returns-in-Triple
unfolding valid
returns-in-Triple c = rw c.in-Triple.is
