-- `front::tests::is_level` meets its contract. Assumes nothing.
use Rattle.front.specs.Front.{level_taken}
use Rattle.front.proofs.tests.is_level.Goals as goal

pub returns-then-is_energy : goal.returns-then-is_energy
unfolding level_taken
returns-then-is_energy c = rw (← c.is_energy.ensures, c.if-is_energy.true)

pub returns-else-is_energy : goal.returns-else-is_energy
unfolding level_taken
returns-else-is_energy c = rw (← c.is_energy.ensures, c.if-is_energy.false)
