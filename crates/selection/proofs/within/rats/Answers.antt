use Rattle.selection.specs.Selection.{rats}
use Rattle.selection.proofs.within.rats.Goals as goal

pub returns : goal.returns
unfolding rats
returns c = c.two_bytes.ensures
