use mathlib.Core.Path.{refl}
use Rattle.block.specs.CutLaws.{part_slice}
use Rattle.block.proofs.part.Goals as goal

pub returns : goal.returns
returns c = let a = c.args in rw (c.min-2.ensures, c.payload_max.ensures) (part_slice a.index a.at _ _ a.message.now c.min.ensures refl)
