use mathlib.Core.Path.{◌∙◌}
use Rattle.rows.specs.HeardLaws.{same_equal}
use Rattle.rows.proofs.is_same.Goals as goal

pub returns : goal.returns
returns c = c.eq.ensures ∙ same_equal c.args.a.now c.args.b.now
