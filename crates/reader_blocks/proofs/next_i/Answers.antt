use native.Mathlib.Omega.{arith}
use Rattle.block.specs.CutLaws.{payload_most}
use Rattle.reader_blocks.proofs.next_i.Goals as goal

pub overflow_add-l : goal.overflow_add-l
overflow_add-l c = omega (arith, c.payload_max.ensures, payload_most c.args.l.card)
