use native.Mathlib.Omega.{arith}
use Prim.Native.Nat.{◌+◌}
use Rattle.block.specs.CutLaws.{fits_cut}
use Rattle.block.proofs.joins_in.Goals as goal

pub returns : goal.returns
returns c = let a = c.args in rw (c.saturating_add.ensures, c.min.ensures) (fits_cut (a.joined + a.bytes) _ a.room (omega arith))
