use Rattle.sweep_row.specs.SeenLaws.{alone_fits, alone_typed}
use mathlib.Core.Path.{◌∙◌}
use Rattle.sweep_row.proofs.seen.card_fits.Goals as goal

pub returns : goal.returns
returns c = let a = c.args in record { value = c.is_within.ensures.value ∙ alone_fits a.c; typed = λ e. alone_typed a.c (c.is_within.ensures.all e) }
