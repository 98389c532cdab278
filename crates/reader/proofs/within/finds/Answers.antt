use mathlib.Core.Path.{ap}
use Rattle.reader.specs.Reader.{turn, finds}
use Rattle.reader.specs.declared.Answer.TheVariants.{Finds}
use Rattle.reader.proofs.within.finds.Goals as goal

pub returns : goal.returns
unfolding finds
returns c = ap (λ n. turn c.args.r (Finds n)) c.frame_bits.ensures
