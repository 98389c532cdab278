-- `delay::frames::after_one` meets its contract: an empty row, whole bytes, or others. Assumes nothing.
use Rattle.delay.specs.KindLaws.{after_none, after_whole, after_broken}
use Rattle.delay.proofs.frames.after_one.Goals as goal

pub returns-then-n-eq0 : goal.returns-then-n-eq0
returns-then-n-eq0 c = after_none c.args.row.now c.if-n-eq0.true

pub returns-then-n-eq0-2 : goal.returns-then-n-eq0-2
returns-then-n-eq0-2 c = after_whole _ c.if-n-eq0-2.true

pub returns-else-n-eq0-2 : goal.returns-else-n-eq0-2
returns-else-n-eq0-2 c = after_broken _ c.if-n-eq0-2.false
