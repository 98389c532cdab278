use native.Mathlib.Omega.{arith}
use Rattle.block.specs.Cut.{payload_max}
use Rattle.block.specs.CutLaws.{size_least}
use Rattle.block.proofs.payload_max.Goals as goal

pub overflow_sub-result : goal.overflow_sub-result
overflow_sub-result c = omega (arith, c.size_of.ensures, size_least c.args.index)

pub returns : goal.returns
unfolding payload_max
returns c = rw c.size_of.ensures
