-- `reader::within::opens` meets its contract. Assumes nothing.
use Rattle.reader.specs.Reader.{opens}
use Rattle.reader.proofs.within.opens.Goals as goal

pub returns : goal.returns
unfolding opens
returns c = rw (c.sends.ensures, c.blank.ensures)
