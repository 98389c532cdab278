-- `front::halves::is_loaded` meets its contract. Assumes nothing.
use Rattle.front.specs.Front.{loaded}
use Rattle.front.proofs.halves.is_loaded.Goals as goal

pub returns-then-energy-level : goal.returns-then-energy-level
unfolding loaded
returns-then-energy-level c = rw c.if-energy-level.true

pub returns-else-energy-level : goal.returns-else-energy-level
unfolding loaded
returns-else-energy-level c = rw c.if-energy-level.false
