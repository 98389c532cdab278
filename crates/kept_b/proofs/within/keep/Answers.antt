-- `kept_b::within::keep` meets its contract, by the law `settled`. Assumes nothing.
use mathlib.Core.Path.{refl}
use Rattle.kept_b.specs.KeptReaderBLaws.{settled}
use borrow.Author.Rules.{rules}
use Rattle.kept_b.proofs.within.keep.Goals as goal

pub returns : goal.returns
returns c = let both = settled c.args.t c.args.state.now _ _ _ _ _ _ (search rules) c.front_bytes-front.ensures.value c.front_bytes-front.ensures.atqb_len refl c.answer_bytes-answer.ensures c.put.ensures c.put-2.ensures c.put-3.ensures in record { state_after = both.0; state_after_2 = both.1 }
