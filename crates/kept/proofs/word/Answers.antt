use mathlib.Core.Path.{◌∙◌}
use Rattle.kept.proofs.ByteLaws.{word_le}
use Rattle.kept.proofs.word.Goals as goal

pub returns : goal.returns
returns c = c.to_le_bytes.ensures ∙ word_le c.args.n
