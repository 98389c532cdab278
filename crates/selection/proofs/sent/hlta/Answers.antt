use Rattle.selection.specs.Selection.{hlta}
use Rattle.selection.proofs.sent.hlta.Goals as goal

pub returns : goal.returns
unfolding hlta
returns c = c.two_bytes.ensures
