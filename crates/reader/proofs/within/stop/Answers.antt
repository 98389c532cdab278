use mathlib.Core.Path.{ap}
use Rattle.reader.specs.Reader.{turn}
use Rattle.reader.specs.declared.Answer.TheVariants.{Declines}
use Rattle.reader.proofs.within.stop.Goals as goal

pub returns : goal.returns
returns c = ap (λ r. turn r (Declines c.args.e)) c.blank.ensures
