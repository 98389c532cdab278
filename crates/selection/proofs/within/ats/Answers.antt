use Rattle.selection.specs.Selection.{ats}
use Rattle.selection.proofs.within.ats.Goals as goal

pub returns : goal.returns
unfolding ats
returns c = c.two_bytes.ensures
