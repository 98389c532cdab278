-- `memory::within::comes` meets its contract. Assumes nothing.
use Rattle.memory.specs.Memory.{comes}
use Rattle.memory.proofs.StoredLaws.{made_memory}
use Rattle.memory.proofs.within.comes.Goals as goal

pub returns : goal.returns
unfolding comes
returns c = rw c.enters_by.ensures (made_memory _ c.keeps.result _ c.keeps.ensures)
