-- `uid::within::sized` meets its contract: bytes written over ten zeros. Assumes nothing.
use Rattle.uid.specs.FillLaws.{sized_made}
use Rattle.uid.proofs.within.sized.Goals as goal

pub returns : goal.returns
returns c = sized_made c.args.size _ _ c.put.ensures
