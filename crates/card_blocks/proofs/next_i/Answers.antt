use native.Mathlib.Omega.{arith}
use Rattle.block.specs.CutLaws.{payload_most}
use Rattle.card_blocks.proofs.next_i.Goals as goal

pub overflow_add-c : goal.overflow_add-c
overflow_add-c c = omega (arith, c.payload_max.ensures, payload_most c.args.c.reader)
