use Rattle.std.proofs.Common.{sym, ◌∙◌, arith}
use Rattle.crc.specs.Crc.{crc_byte}
use Rattle.frame_v.specs.FrameVLaws.{shifts_next, shifts_done}
use Rattle.frame_v.proofs.within.shift_byte.Goals as goal

pub loop-init : goal.loop-init
unfolding crc_byte
loop-init c = rw c.from.ensures

pub loop-preserved : goal.loop-preserved
loop-preserved c = let l = c.loop in rw c.shift-x.ensures (sym (shifts_next l.counter l.x (omega arith)) ∙ l.invariant)

pub returns : goal.returns
returns c = let l = c.loop in sym (shifts_done l.counter l.x (omega arith)) ∙ l.invariant
