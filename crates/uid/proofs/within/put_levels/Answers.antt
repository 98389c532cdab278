use mathlib.Core.Path.{refl, sym}
use native.Mathlib.Omega.{arith}
use Rattle.rows.proofs.RowLaws.{overlay_nil}
use Rattle.uid.specs.Uid.{air}
use Rattle.uid.specs.AirLaws.{levels_turn}
use Rattle.uid.proofs.within.put_levels.Goals as goal

pub loop-i-init : goal.loop-i-init
unfolding air
loop-i-init c = (omega arith, refl, refl, sym (overlay_nil _ _))

pub loop-i-preserved : goal.loop-i-preserved
loop-i-preserved c = let p = c.put_level in
    let l = c.loop-i in
    let a = c.args in
    let t = levels_turn a.out.now a.rows.now l.i (omega arith) l.invariant.2 p.ensures.five_len (omega arith) in
    (omega arith, omega (arith, p.auto.out), t.1, rw (p.ensures.out_after, l.invariant.3) t.0)
