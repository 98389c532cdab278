use mathlib.Core.Path.{sym}
use native.Mathlib.Omega.{arith}
use Rattle.rows.proofs.RowLaws.{overlay_nil}
use Rattle.frame.specs.Frame.{standard}
use Rattle.frame.proofs.LoopLaws.{standard_turn}
use Rattle.frame.proofs.within.put_bytes.Goals as goal

pub loop-i-init : goal.loop-i-init
unfolding standard
loop-i-init c = (omega arith, omega arith, sym (overlay_nil _ _))

pub loop-i-preserved : goal.loop-i-preserved
loop-i-preserved c = let p = c.put in
    let l = c.loop-i in
    let a = c.args in
    (omega arith, omega (arith, p.auto.out), rw (p.ensures, c.air_byte.ensures, l.invariant.2) (standard_turn a.out.now a.at a.bytes.now l.i (omega arith) (omega arith)))
