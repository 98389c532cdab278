use Rattle.block.specs.Block.{bytes_in}
use Rattle.block.proofs.bytes_in.Goals as goal

pub returns : goal.returns
unfolding bytes_in
returns c = rw c.put.ensures
