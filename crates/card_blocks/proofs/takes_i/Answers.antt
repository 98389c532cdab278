use Prim.Native.Nat.{◌+◌}
use native.Mathlib.Omega.{arith}
use mathlib.Core.Path.{sym, ◌∙◌}
use Rattle.block.specs.CutLaws.{fits_true}
use Rattle.card_blocks.proofs.takes_i.Goals as goal

pub overflow_add-c : goal.overflow_add-c
overflow_add-c c = let a = c.args in
    omega (arith, (fits_true (a.c.joined + a.bytes) a.room (sym c.if-joins_in.true ∙ c.joins_in.ensures)).0)
