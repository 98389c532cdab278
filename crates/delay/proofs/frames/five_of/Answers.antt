-- `delay::frames::five_of` meets its contract. Assumes nothing.
use Rattle.delay.specs.KindLaws.{five_is}
use Rattle.delay.proofs.frames.five_of.Goals as goal

pub returns : goal.returns
returns c = rw (five_is _, c.byte_from.ensures, c.byte_from-2.ensures, c.byte_from-3.ensures, c.byte_from-4.ensures, c.byte_from-5.ensures)
