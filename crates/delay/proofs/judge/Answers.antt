-- `delay::judge` meets its contract: 14, or measured less due. Assumes nothing.
use Rattle.std.proofs.Common.{arith}
use Rattle.delay.specs.CallLaws.{delay_is, judged, difference_held}
use Rattle.delay.proofs.judge.Goals as goal

pub returns : goal.returns
returns c = let a = c.args in
    let d = c.wrapping_sub_u32-delay.result in
    let at = c.due.result in
    judged a.kind a.one a.sent a.heard d (delay_is d a.sent a.heard (omega arith) (omega arith) c.wrapping_sub_u32-delay.ensures.value) _ at (omega arith) c.due.ensures (difference_held d at (omega arith) (omega arith) c.difference.result c.difference.ensures)
