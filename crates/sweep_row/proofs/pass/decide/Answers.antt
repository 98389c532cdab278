use Rattle.sweep_row.specs.Row.{decided}
use Rattle.sweep_row.proofs.pass.decide.Goals as goal

pub returns-then-s : goal.returns-then-s
unfolding decided
returns-then-s c = rw (c.if-s.true, c.again.ensures, c.first.ensures)

pub returns-else-s : goal.returns-else-s
unfolding decided
returns-else-s c = rw (c.if-s.false, c.stopped.ensures)
