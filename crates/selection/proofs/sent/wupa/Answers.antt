use mathlib.Core.Path.{refl}
use Rattle.parity.specs.Bits.{bits_of}
use Rattle.frame.specs.Frame.{short}
use Rattle.selection.specs.Selection.{wupa}
use Rattle.selection.proofs.sent.wupa.Goals as goal

pub returns : goal.returns
unfolding wupa short bits_of
returns c = refl
