-- `kept_memory::told_bytes` meets its contract, by the law `told_put`. Assumes nothing.
use Rattle.kept_memory.specs.KeptMemoryLaws.{told_put}
use borrow.Author.Rules.{rules}
use Rattle.kept_memory.proofs.told_bytes.Goals as goal

pub returns : goal.returns
returns c = record { value = told_put c.args.a _ _ _ _ c.selection_event.ensures c.selection_length.ensures c.word.ensures c.put.ensures; a_bound = rw (← c.selection_length.ensures) (search rules) }
