-- `kept_field::swept_tail` meets its contract, byte by byte. Assumes nothing.
use Rattle.kept.specs.Kept.{word}
use Rattle.kept_field.specs.KeptField.{swept_tail}
use borrow.Author.Rules.{rules}
use Rattle.kept_field.proofs.swept_tail.Goals as goal

pub returns : goal.returns
unfolding word swept_tail
returns c = record { value = simp (c.word-a.ensures, c.word-b.ensures); logged_bound = (search rules, search rules) }
