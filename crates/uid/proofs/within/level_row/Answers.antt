-- `uid::within::level_row` meets its contract. Assumes nothing.
use Rattle.uid.specs.Uid.{level}
use Rattle.uid.proofs.within.level_row.Goals as goal

pub returns : goal.returns
unfolding level
returns c = rw c.check_byte.ensures
