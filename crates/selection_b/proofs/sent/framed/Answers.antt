-- `selection_b::sent::framed` meets its contract: the frame takes the whole row. Assumes nothing.
use Rattle.std.proofs.Common.{sym}
use Rattle.selection_b.proofs.SentBLaws.{framed}
use Rattle.selection_b.proofs.sent.framed.Goals as goal

pub returns : goal.returns
returns g c = framed g.row.N _ _ (sym c.requires) c.put_frame.ensures
