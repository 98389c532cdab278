use Rattle.block.specs.BlockLaws.{bytes_behind}
use Rattle.block.proofs.i_bytes.Goals as goal

pub returns : goal.returns
returns c = rw c.put.ensures (bytes_behind c.args.first c.args.payload.now)
