-- `selection_b::taken::is_hltb` meets its contract. Assumes nothing.
use mathlib.Core.Path.{ap, ◌∙◌}
use Rattle.rows.specs.Rows.{same}
use Rattle.selection_b.proofs.taken.is_hltb.Goals as goal

pub returns : goal.returns
returns c = c.is_same.ensures ∙ ap (same c.args.row.now) c.hltb.ensures
