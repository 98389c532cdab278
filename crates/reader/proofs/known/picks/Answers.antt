-- `reader::known::picks` meets its contract: the level is one of the three that are handed over. Assumes nothing.
use Rattle.reader.specs.Reader.{picks}
use Rattle.reader.proofs.known.picks.Goals as goal

pub returns : goal.returns
unfolding picks
returns c = rw (c.sends.ensures, c.blank.ensures, c.levels.ensures, c.place.ensures)
