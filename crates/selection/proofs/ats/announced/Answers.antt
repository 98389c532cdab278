use mathlib.Core.Path.{refl}
use Rattle.selection.specs.Heard.{announced}
use Rattle.selection.proofs.ats.announced.Goals as goal

pub returns : goal.returns
unfolding announced
returns c = refl
