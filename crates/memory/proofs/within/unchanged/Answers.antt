-- `memory::within::unchanged` meets its contract. Assumes nothing.
use Rattle.memory.specs.Stored.{path_of}
use Rattle.memory.proofs.StoredLaws.{made_memory}
use Rattle.memory.proofs.within.unchanged.Goals as goal

pub returns : goal.returns
returns c = made_memory c.args.t c.args.p.path (path_of c.args.p.path) c.args.p.kept.zeros
