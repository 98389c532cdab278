-- `selection_b::sent::hltb` meets its contract: the bytes are put together, and the frame takes the whole row. Assumes nothing.
use mathlib.Core.Path.{◌≡◌, ap, ◌∙◌}
use lib.ListN.{length}
use Rattle.frame_b.specs.FrameB.{frame_b}
use Rattle.selection_b.specs.TypeB.{hltb}
use Rattle.selection_b.proofs.SentBLaws.{joined}
use borrow.Author.Rules.{rules}
use Rattle.selection_b.proofs.sent.hltb.Goals as goal

pub returns : goal.returns
unfolding hltb
returns c = let a = c.args in
    let n : length a.pupi ≡ 4 = search rules in
    c.framed.ensures ∙ ap frame_b (joined 0x50 a.pupi n _ c.put.ensures)
