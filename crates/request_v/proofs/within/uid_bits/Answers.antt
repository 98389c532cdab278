-- `request_v::within::uid_bits` meets its contract: the bits written over a row of their number. Assumes nothing.
use Rattle.request_v.specs.InventoryLaws.{bits_whole}
use borrow.Author.Rules.{rules}
use Rattle.request_v.proofs.within.uid_bits.Goals as goal

pub returns : goal.returns
returns c = bits_whole c.args.uid _ (search rules) c.put_bits.ensures
