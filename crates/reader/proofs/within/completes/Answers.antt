-- `reader::within::completes` meets its contract. Assumes nothing.
use Rattle.reader.specs.Reader.{completes}
use Rattle.reader.proofs.within.completes.Goals as goal

pub returns-then-s : goal.returns-then-s
unfolding completes
returns-then-s c = rw (c.if-s.true, c.finds.ensures, c.blank.ensures)

pub returns : goal.returns
unfolding completes
returns c = rw (c.if-s.false, c.blank-2.ensures)
