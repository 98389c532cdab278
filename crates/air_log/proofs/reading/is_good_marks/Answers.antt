-- `air_log::reading::is_good_marks` meets its contract, test by test. Assumes nothing.
use mathlib.Core.Path.{sym, ◌∙◌}
use native.Mathlib.Omega.{arith}
use Rattle.air_log.specs.Reading.{good_marks}
use Rattle.air_log.specs.Calls.{row_size}
use Rattle.air_log.specs.UnpackLaws.{bits_enough, row_all}
use Rattle.air_log.specs.Reading.{bits_from}
use Rattle.air_log.proofs.reading.is_good_marks.Goals as goal

pub is_zero-requires : goal.is_zero-requires
is_zero-requires c = let a = c.args in
    (omega arith, omega (arith, bits_enough a.log.now a.marks (row_size a.n) (omega arith)))

pub returns-then-is_zero : goal.returns-then-is_zero
unfolding good_marks
returns-then-is_zero c = let a = c.args in
    let e = sym (row_all (bits_from a.log.now a.marks) a.n c.is_zero.ensures) in
    rw (e ∙ c.if-is_zero.true)

pub is_apart-requires : goal.is_apart-requires
is_apart-requires c = let a = c.args in (
  omega (arith, bits_enough a.log.now a.start (row_size a.n) (omega arith)),
  omega (arith, bits_enough a.log.now a.marks (row_size a.n) (omega arith)),
)

pub is_zero-requires-then-is_apart : goal.is_zero-requires-then-is_apart
is_zero-requires-then-is_apart c = let a = c.args in
    (omega arith, bits_enough a.log.now a.marks (row_size a.n) (omega arith))

pub returns-then-is_apart : goal.returns-then-is_apart
unfolding good_marks
returns-then-is_apart c = let a = c.args in
    let e = sym (row_all (bits_from a.log.now a.marks) a.n c.is_zero.ensures) in
    rw (e ∙ c.if-is_zero.false, ← c.is_apart.ensures, c.if-is_apart.true, c.is_zero-then-is_apart.ensures)

pub returns-else-is_apart : goal.returns-else-is_apart
unfolding good_marks
returns-else-is_apart c = let a = c.args in
    let e = sym (row_all (bits_from a.log.now a.marks) a.n c.is_zero.ensures) in
    rw (e ∙ c.if-is_zero.false, ← c.is_apart.ensures, c.if-is_apart.false)
