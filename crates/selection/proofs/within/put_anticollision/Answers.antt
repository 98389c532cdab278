use native.Mathlib.Omega.{arith}
use Rattle.selection.specs.SentLaws.{anti_made}
use borrow.Author.Rules.{rules}
use Rattle.selection.proofs.within.put_anticollision.Goals as goal

pub returns : goal.returns
returns c = let a = c.args in
    anti_made a.l a.k a.five (search rules) a.out.now _ _ _ _ _ _ (omega arith) c.sel.ensures c.nvb.ensures c.cut-n.ensures c.level_row-level.ensures
    c.put_bytes.ensures c.put.ensures
