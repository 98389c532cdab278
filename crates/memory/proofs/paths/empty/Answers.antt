-- `memory::paths::empty` meets its contract. Assumes nothing.
use mathlib.Core.Path.{refl}
use Rattle.rows.specs.Rows.{fill}
use Rattle.memory.specs.Stored.{stored}
use Rattle.memory.proofs.paths.empty.Goals as goal

pub returns : goal.returns
unfolding stored fill
returns c = refl
