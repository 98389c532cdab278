-- `reader::within::is_over` meets its contract. Assumes nothing.
use Rattle.std.proofs.Common.{arith}
use Rattle.selection.specs.RestLaws.{nil_yes, nil_no}
use Rattle.reader.proofs.within.is_over.Goals as goal

pub returns-then-row-eq0 : goal.returns-then-row-eq0
returns-then-row-eq0 c = rw (nil_yes _ c.if-row-eq0.true)

pub returns-else-row-eq0 : goal.returns-else-row-eq0
returns-else-row-eq0 c = rw (nil_no _ c.if-row-eq0.false) (grind arith)
