use Rattle.block.specs.CutLaws.{follows_sub}
use Rattle.block.proofs.has_more.Goals as goal

pub returns : goal.returns
returns c = let a = c.args in rw (c.saturating_sub.ensures, c.payload_max.ensures) (follows_sub a.index a.at a.len)
