-- `sweep_row::sweep_row` meets its contract: the pass over the row, where it does not remember, is the plain sweep. Assumes nothing.
use Rattle.sweep_row.proofs.Carried.{promised}
use Rattle.sweep_row.specs.Row.{swept_row}
use Rattle.sweep_row.proofs.sweep_row.Goals as goal

pub returns : goal.returns
returns c =
    let a = c.args in
    let o = c.over in
    let both = promised a.start a.cards.now a.log.now a.list.now (swept_row o.result o.new.cards) o.new.log o.new.list o.ensures in
    record { list_after = both.0; sweeps = both.1 }
