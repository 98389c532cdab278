use Prim.Native.Nat.{◌+◌}
use native.Mathlib.Omega.{arith}
use mathlib.Core.Path.{sym, ◌∙◌}
use borrow.Author.Rules.{rules}
use Rattle.block.specs.CutLaws.{fits_true}
use Rattle.reader_blocks.proofs.takes_i.Goals as goal

pub overflow_add-l : goal.overflow_add-l
overflow_add-l c = let a = c.args in
    omega (arith, (fits_true (a.l.joined + a.bytes) a.room (sym (search rules) ∙ c.joins_in.ensures)).0)
