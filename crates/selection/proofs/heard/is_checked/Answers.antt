use Rattle.selection.specs.RestLaws.{checked}
use borrow.Author.Rules.{rules}
use Rattle.selection.proofs.heard.is_checked.Goals as goal

pub returns : goal.returns
returns c = checked c.args.five _ (search rules) c.check_byte.ensures
