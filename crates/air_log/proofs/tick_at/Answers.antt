-- `air_log::tick_at` meets its contract: four bytes, the greatest first. Assumes nothing.
use Prim.Native.Nat.{◌+◌}
use native.Mathlib.Omega.{arith}
use lib.ListN.{get_or-eq_default}
use Rattle.air_log.specs.Reading.{tick_at}
use Rattle.air_log.proofs.tick_at.Goals as goal

pub returns-then-log-at : goal.returns-then-log-at
unfolding tick_at
returns-then-log-at c = let a = c.args in
    let l = a.log.now in
    rw (
      get_or-eq_default l 0 {n = a.at + 2} (omega arith),
      get_or-eq_default l 0 {n = a.at + 3} (omega arith),
      get_or-eq_default l 0 {n = a.at + 4} (omega arith),
      get_or-eq_default l 0 {n = a.at + 5} (omega arith),
    )

pub returns : goal.returns
unfolding tick_at
returns c = omega (arith, c.from_be_bytes.ensures, c.byte_at.ensures, c.byte_at-2.ensures, c.byte_at-3.ensures, c.byte_at-4.ensures)
