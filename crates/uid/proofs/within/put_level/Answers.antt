use borrow.Author.Rules.{rules}
use mathlib.Core.Path.{refl, sym}
use native.Mathlib.Omega.{arith}
use Rattle.rows.proofs.RowLaws.{overlay_nil}
use Rattle.frame.specs.Frame.{air_bits}
use Rattle.uid.specs.AirLaws.{bits_turn}
use Rattle.uid.proofs.within.put_level.Goals as goal

pub loop-i-init : goal.loop-i-init
unfolding air_bits
loop-i-init c = (omega arith, search rules, refl, sym (overlay_nil _ _))

pub loop-i-preserved : goal.loop-i-preserved
loop-i-preserved c = let p = c.put in
    let l = c.loop-i in
    let a = c.args in (
      omega arith,
      omega arith,
      omega (arith, p.auto.out),
      rw (p.ensures, c.bits_of.ensures, l.invariant.3) (bits_turn a.out.now a.at a.five l.i (omega arith) (omega arith)),
    )
