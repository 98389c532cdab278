-- `kept_memory::within::path_of` meets its contract, by the law `path_read`. Assumes nothing.
use Rattle.kept_memory.specs.KeptMemoryLaws.{path_read}
use borrow.Author.Rules.{rules}
use Rattle.kept_memory.proofs.within.path_of.Goals as goal

pub returns : goal.returns
returns c = path_read c.args.b.now _ _ (search rules) c.number_at.ensures c.put.ensures
