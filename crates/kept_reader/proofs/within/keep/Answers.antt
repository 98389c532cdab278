-- `kept_reader::within::keep` meets its contract, by the law `settled`. Assumes nothing.
use Rattle.kept_reader.specs.KeptReaderLaws.{settled}
use borrow.Author.Rules.{rules}
use Rattle.kept_reader.proofs.within.keep.Goals as goal

pub returns : goal.returns
returns c = let both = settled c.args.t c.args.state.now _ _ _ _ _ _ (search rules) c.selection_bytes-selection.ensures.value c.selection_bytes-selection.ensures.five_len c.link_bytes-link.ensures.value c.link_bytes-link.ensures.sized c.answer_bytes-answer.ensures.value c.answer_bytes-answer.ensures.a_bound c.put.ensures c.put-2.ensures c.put-3.ensures in record { state_after = both.0; state_after_2 = both.1 }
