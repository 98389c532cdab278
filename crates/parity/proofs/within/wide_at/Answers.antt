-- `parity::within::wide_at` meets its contract, by that of `four`. Assumes nothing.
use native.Mathlib.Omega.{arith}
use Rattle.parity.specs.WideLaws.{wide_halves}
use Rattle.parity.proofs.within.wide_at.Goals as goal

pub returns : goal.returns
returns c = let a = c.args in
    rw (c.four-low.ensures.value, c.four-high.ensures.value) (wide_halves a.row.now a.at (omega arith))
