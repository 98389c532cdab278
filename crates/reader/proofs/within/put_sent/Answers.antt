-- `reader::within::put_sent` meets its contract. Assumes nothing.
use Rattle.std.proofs.Common.{arith}
use Rattle.rows.proofs.RowLaws.{overlay_nil}
use Rattle.reader.proofs.within.put_sent.Goals as goal

pub returns-in-Selects : goal.returns-in-Selects
returns-in-Selects c = grind (arith, overlay_nil)
