use Rattle.rows.specs.Rows.{fill}
use Rattle.memory.specs.Stored.{stored}
use Rattle.sweep_row.proofs.pass.stopped.Goals as goal

pub returns : goal.returns
unfolding stored fill
returns c = rw (c.empty.ensures, c.silence.ensures, c.none.ensures)
