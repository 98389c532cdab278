use Rattle.frame.proofs.CallLaws.{held_good}
use Prim.Native.Nat.{◌-◌}
use mathlib.Core.Path.{refl, sym, ◌∙◌}
use native.Mathlib.Omega.{arith}
use lib.Seq.{length-take-le}
use Rattle.crc.specs.Crc.{crc_good}
use Rattle.frame.specs.Frame.{without_crc}
use Rattle.frame.proofs.within.without_crc.Goals as goal

-- `frame::within::without_crc` meets its contract, by those of `is_good` and `put`. Assumes nothing.
pub returns-then-not-is_good : goal.returns-then-not-is_good
unfolding without_crc crc_good
returns-then-not-is_good c = record { value = simp (sym c.is_good.ensures ∙ c.if-not-is_good.true); out_after = refl }

pub returns : goal.returns
returns c = let a = c.args in
    let g = held_good a.held.now a.n (omega arith) (sym c.is_good.ensures ∙ c.if-not-is_good.false) in record { value = simp (g, length-take-le (a.n - 2) a.held.now (omega arith)); out_after = rw g c.put.ensures }
