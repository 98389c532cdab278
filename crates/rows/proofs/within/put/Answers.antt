use mathlib.Core.Path.{sym}
use native.Mathlib.Omega.{arith}
use lib.ListN.{length-set}
use Rattle.rows.proofs.RowLaws.{overlay_nil, overlay_copy}
use Rattle.rows.proofs.within.put.Goals as goal

pub loop-i-init : goal.loop-i-init
loop-i-init c = (omega arith, omega arith, sym (overlay_nil _ _))

pub loop-i-preserved : goal.loop-i-preserved
loop-i-preserved c = let l = c.loop-i in
    let a = c.args in
    (omega arith, simp length-set (omega arith), rw l.invariant.2 (overlay_copy a.out.now a.at a.src.now l.i (omega arith) (omega arith)))
