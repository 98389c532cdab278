use mathlib.Core.Path.{sym, ◌∙◌}
use native.Mathlib.Omega.{arith}
use Rattle.crc.specs.LinearLaws.{eight_next}
use Rattle.crc.proofs.ByTables.crc.Goals as goal

pub loop-eight-preserved : goal.loop-eight-preserved
loop-eight-preserved c = let l = c.loop-eight in
    let p = c.in-Some.ensures.cases in
    rw (c.over_eight.ensures, c.by_pairs.ensures, p.0, p.1) (sym (eight_next l.left.now 0 l.c (omega arith)) ∙ l.invariant)
