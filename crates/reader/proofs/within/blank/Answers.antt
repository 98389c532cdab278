use mathlib.Core.Path.{ap}
use lib.ListN.{replicate}
use Rattle.reader.specs.Reader.{reader}
use Rattle.reader.proofs.within.blank.Goals as goal

pub returns : goal.returns
returns c = ap (λ u. reader c.args.p c.args.s (replicate 5 0) 0 u 0) c.no_uid.ensures
