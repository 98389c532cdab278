-- `memory::declines` meets its contract. Assumes nothing.
use mathlib.Core.Path.{refl}
use Rattle.memory.specs.Calls.{refused}
use Rattle.memory.proofs.declines.Goals as goal

pub returns : goal.returns
unfolding refused
returns c = refl
