-- `kept_field::within::keep` meets its contract, by the law `kept_swept`. Assumes nothing.
use Rattle.kept_field.specs.SweptLaws.{kept_swept}
use borrow.Author.Rules.{rules}
use Rattle.kept_field.proofs.within.keep.Goals as goal

pub returns : goal.returns
returns c = let a = c.args in let both = kept_swept a.r a.k a.logged a.frames a.state.now _ _ _ _ _ _ (search rules) c.selection_bytes-selection.ensures.value c.selection_bytes-selection.ensures.five_len c.link_bytes-link.ensures.value c.link_bytes-link.ensures.sized c.swept_tail-tail.ensures.value c.swept_tail-tail.ensures.logged_bound c.put.ensures c.put-2.ensures c.put-3.ensures in record { state_after = both.0; state_after_2 = both.1 }
