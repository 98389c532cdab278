use Rattle.std.proofs.Common.{refl, sym, arith}
use Rattle.rows.proofs.RowLaws.{overlay_nil}
use Rattle.frame.specs.Frame.{air_bits}
use Rattle.frame_b.specs.LoopBLaws.{bits_turn}
use Rattle.frame_b.proofs.within.put_bits.Goals as goal

pub loop-i-init : goal.loop-i-init
unfolding air_bits
loop-i-init c = (refl, sym (overlay_nil _ _))

pub loop-i-preserved : goal.loop-i-preserved
loop-i-preserved c =
    let a = c.args in
    let l = c.loop-i in
    (omega (arith, c.put.auto.out), rw (c.put.ensures, c.bits_of.ensures, l.invariant.1) (bits_turn a.out.now a.at a.bytes.now l.i (omega arith) (omega arith)))
