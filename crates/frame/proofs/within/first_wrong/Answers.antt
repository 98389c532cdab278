use Prim.Native.Nat.{◌+◌, ◌*◌}
use mathlib.Core.Path.{sym, ◌∙◌}
use native.Mathlib.Omega.{arith}
use lib.ListN.{drop}
use Rattle.frame.proofs.LoopLaws.{first_next, first_here, first_done}
use Rattle.frame.proofs.within.first_wrong.Goals as goal

pub returns-then-is_wrong : goal.returns-then-is_wrong
returns-then-is_wrong c = let l = c.loop-i in
    let a = c.args in
    omega (arith, first_here a.n l.i (drop (a.at + 9 * l.i) a.row.now) (omega arith) (sym c.is_wrong.ensures ∙ c.if-is_wrong.true), l.invariant.1)

pub loop-i-preserved : goal.loop-i-preserved
loop-i-preserved c = let l = c.loop-i in
    let a = c.args in
    (omega arith, omega (arith, first_next a.n l.i a.row.now a.at (omega arith) (sym c.is_wrong.ensures ∙ c.if-is_wrong.false), l.invariant.1))

pub returns : goal.returns
returns c = let l = c.loop-i in
    let a = c.args in
    omega (arith, first_done a.n l.i (drop (a.at + 9 * l.i) a.row.now) (omega arith), l.invariant.1)
