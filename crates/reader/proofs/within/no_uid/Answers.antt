use mathlib.Core.Path.{refl}
use Rattle.rows.specs.Rows.{fill}
use Rattle.reader.proofs.within.no_uid.Goals as goal

pub returns : goal.returns
unfolding fill
returns c = refl
