-- `kept_memory::within::keep` meets its contract, by the law `settled`. Assumes nothing.
use Rattle.kept_memory.specs.KeptMemoryLaws.{settled}
use borrow.Author.Rules.{rules}
use Rattle.kept_memory.proofs.within.keep.Goals as goal

pub returns : goal.returns
returns c = let a = c.args in let both = settled a.m a.state.now _ _ _ _ _ _ (search rules) c.selection_bytes-selection.ensures.value c.selection_bytes-selection.ensures.five_len c.told_bytes-told.ensures.value c.told_bytes-told.ensures.a_bound c.path_bytes-path.ensures.value c.path_bytes-path.ensures.fits c.put.ensures c.put-2.ensures c.put-3.ensures in record { state_after = both.0; state_after_2 = both.1 }
