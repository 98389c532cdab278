-- `air_log::reading::is_good_row` meets its contract. Assumes nothing.
use native.Mathlib.Omega.{arith}
use borrow.Author.Tests.{eq-eqb, ne_eqb}
use Rattle.air_log.specs.Reading.{good_row}
use Rattle.air_log.specs.Calls.{row_size}
use Rattle.air_log.specs.UnpackLaws.{bits_enough}
use Rattle.air_log.proofs.reading.is_good_row.Goals as goal

pub returns-else-n-ne0 : goal.returns-else-n-ne0
unfolding good_row
returns-else-n-ne0 c = simp (eq-eqb _ _ c.if-n-ne0.false)

pub is_zero-requires : goal.is_zero-requires
is_zero-requires c = let a = c.args in
    (omega arith, bits_enough a.log.now a.start (row_size a.n) (omega arith))

pub returns-then-n-ne0 : goal.returns-then-n-ne0
unfolding good_row
returns-then-n-ne0 c = rw (ne_eqb _ _ c.if-n-ne0.true, c.is_zero.ensures)
