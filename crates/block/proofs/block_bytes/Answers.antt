use native.Mathlib.Omega.{arith}
use Rattle.block.specs.CutLaws.{payload_most, part_fits}
use Rattle.block.proofs.block_bytes.Goals as goal

pub i_bytes-requires : goal.i_bytes-requires
i_bytes-requires c = let a = c.args in rw c.part.ensures (omega (arith, part_fits a.index a.at a.message.now, payload_most a.index))
