-- `memory_row::sweep_row` meets its contract: the pass over the row, where it remembers, is the sweep of T-14. Assumes nothing.
use Rattle.std.proofs.Common.{length}
use Rattle.memory_row.proofs.Promised.{promised}
use Rattle.sweep_row.specs.Row.{swept_row}
use Rattle.memory_row.proofs.sweep_row.Goals as goal

pub returns : goal.returns
returns c =
    let a = c.args in
    let o = c.over in
    promised a.start a.cards.now (length a.cards.now) a.log.now a.list.now (swept_row o.result o.new.cards) o.new.log o.new.list o.ensures
