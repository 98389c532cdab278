-- `air_log::reading::collided_of` meets its contract. Assumes nothing.
use mathlib.Core.Path.{sym, ◌∙◌}
use Rattle.air_log.specs.Reading.{collided_of}
use Rattle.air_log.proofs.reading.collided_of.Goals as goal

pub returns-then-is_good_marks : goal.returns-then-is_good_marks
unfolding collided_of
returns-then-is_good_marks c = rw (sym c.is_good_marks.ensures ∙ c.if-is_good_marks.true)

pub returns-else-is_good_marks : goal.returns-else-is_good_marks
unfolding collided_of
returns-else-is_good_marks c = rw (sym c.is_good_marks.ensures ∙ c.if-is_good_marks.false)
