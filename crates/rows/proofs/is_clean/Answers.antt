use mathlib.Core.Path.{sym, ◌∙◌}
use native.Mathlib.Omega.{arith}
use Rattle.rows.specs.HeardLaws.{clean_next, clean_done}
use Rattle.rows.proofs.is_clean.Goals as goal

pub loop-x-preserved : goal.loop-x-preserved
loop-x-preserved c = let l = c.loop-x in
    (omega arith, rw c.larger-most.ensures (sym (clean_next c.args.row.now l.x-index l.most (omega arith)) ∙ l.invariant.1))

pub returns : goal.returns
returns c = let l = c.loop-x in
    sym (clean_done c.args.row.now l.x-index l.most (omega arith)) ∙ l.invariant.1
