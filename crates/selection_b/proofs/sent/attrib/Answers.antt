-- `selection_b::sent::attrib` meets its contract: the bytes are put together, and the frame takes the whole row. Assumes nothing.
use mathlib.Core.Path.{◌≡◌, ap, ◌∙◌}
use lib.ListN.{length}
use Rattle.frame_b.specs.FrameB.{frame_b}
use Rattle.selection_b.specs.TypeB.{attrib}
use Rattle.selection_b.proofs.SentBLaws.{joined_two}
use borrow.Author.Rules.{rules}
use Rattle.selection_b.proofs.sent.attrib.Goals as goal

pub returns : goal.returns
unfolding attrib
returns c = let a = c.args in
    let n : length a.pupi ≡ 4 = search rules in
    let m : length a.parameters ≡ 4 = search rules in
    c.framed.ensures ∙ ap frame_b (joined_two 0x1D a.pupi n a.parameters m _ _ c.put.ensures c.put-2.ensures)
