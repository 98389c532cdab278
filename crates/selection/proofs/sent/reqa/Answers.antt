use mathlib.Core.Path.{refl}
use Rattle.parity.specs.Bits.{bits_of}
use Rattle.frame.specs.Frame.{short}
use Rattle.selection.specs.Selection.{reqa}
use Rattle.selection.proofs.sent.reqa.Goals as goal

pub returns : goal.returns
unfolding reqa short bits_of
returns c = refl
