use mathlib.Core.Path.{sym, ◌∙◌}
use native.Mathlib.Omega.{arith}
use Rattle.selection.specs.LevelLaws.{first_next, first_here, first_done}
use Rattle.selection.proofs.level.first_collided.Goals as goal

pub returns-then-b-gt1 : goal.returns-then-b-gt1
returns-then-b-gt1 c = let l = c.loop-i in
    let h = c.args.h.now in
    omega (arith, first_here h l.i (omega arith) (omega arith), l.invariant.1)

pub loop-i-preserved : goal.loop-i-preserved
loop-i-preserved c = let l = c.loop-i in
    let h = c.args.h.now in
    (omega arith, sym (first_next h l.i (omega arith) (omega arith)) ∙ l.invariant.1)

pub returns : goal.returns
returns c = let l = c.loop-i in
    let h = c.args.h.now in
    omega (arith, first_done h l.i (omega arith), l.invariant.1)
