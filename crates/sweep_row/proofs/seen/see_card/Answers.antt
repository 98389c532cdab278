use Rattle.sweep_row.specs.Row.{seen_with}
use Rattle.sweep_row.proofs.seen.see_card.Goals as goal

pub returns : goal.returns
unfolding seen_with
returns c = let k = c.fits_too-fits in record { value = rw k.ensures.value; typed = k.ensures.typed }
