-- `selection_b::sent::atqb` meets its contract: the frame takes the whole row. Assumes nothing.
use mathlib.Core.Path.{ap, ◌∙◌}
use Rattle.frame_b.specs.FrameB.{frame_b}
use Rattle.selection_b.proofs.sent.atqb.Goals as goal

pub returns : goal.returns
returns c = c.framed.ensures ∙ ap frame_b c.atqb_bytes.ensures
