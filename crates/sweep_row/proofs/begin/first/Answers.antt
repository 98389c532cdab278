use Rattle.rows.specs.Rows.{fill}
use Rattle.memory.specs.Stored.{stored, memory_of}
use Rattle.sweep_row.specs.Row.{first_row}
use Rattle.sweep_row.proofs.begin.first.Goals as goal

pub returns : goal.returns
unfolding first_row memory_of stored fill
returns c = rw c.fresh-m.ensures
