-- `front::tests::is_energy` meets its contract: it makes two comparisons. Assumes nothing.
use Rattle.front.specs.NumberLaws.{energy_compared}
use Rattle.front.proofs.tests.is_energy.Goals as goal

pub returns-then-x : goal.returns-then-x
returns-then-x c = rw (energy_compared c.args.x, c.if-x.true)

pub returns-else-x : goal.returns-else-x
returns-else-x c = rw (energy_compared c.args.x, c.if-x.false)
