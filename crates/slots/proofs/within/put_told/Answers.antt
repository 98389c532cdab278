-- `slots::within::put_told` meets its contract, by the answer. Assumes nothing.
use Rattle.std.proofs.Common.{rules}
use Rattle.slots.specs.StepLaws.{puts_either}
use Rattle.slots.proofs.within.put_told.Goals as goal

pub returns-in-Marks : goal.returns-in-Marks
returns-in-Marks c =
    let a = c.args in
    let k = puts_either a.t a.list.now a.at c.in-Marks.k _ c.in-Marks.is (search rules) c.put_entry.ensures in
    record { value = k.count; list_after = k.row; t_len = k.size }
