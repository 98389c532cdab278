-- `memory::within::stays` meets its contract. Assumes nothing.
use Rattle.memory.specs.Memory.{stays}
use Rattle.memory.proofs.StoredLaws.{made_memory}
use Rattle.memory.proofs.within.stays.Goals as goal

pub returns : goal.returns
unfolding stays
returns c = made_memory _ c.keeps.result _ c.keeps.ensures
