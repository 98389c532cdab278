use mathlib.Core.Path.{ap}
use Rattle.reader.specs.Reader.{turn, sends}
use Rattle.reader.specs.declared.Answer.TheVariants.{Sends}
use Rattle.reader.proofs.within.sends.Goals as goal

pub returns : goal.returns
unfolding sends
returns c = ap (λ n. turn c.args.r (Sends n)) c.frame_bits.ensures
