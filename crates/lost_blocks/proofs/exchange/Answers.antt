-- `lost_blocks::exchange` meets its contract, by that of `exchange::lossy`. Assumes nothing.
use Rattle.rows.specs.ListLaws.{bytes_at_law}
use Rattle.lost_blocks.proofs.PromiseLaws.{survives}
use Rattle.lost_blocks.proofs.exchange.Goals as goal

pub returns : goal.returns
returns c = let a = c.args in
    let e = c.lossy.ensures in record { up_after = e; by_index = survives a.reader a.card a.message.now a.before.now a.answer.now _ a.down.now a.up.now _ _ c.lossy.result e (bytes_at_law a.message.now c.type_inv.message) (bytes_at_law a.before.now c.type_inv.before) (bytes_at_law a.answer.now c.type_inv.answer) }
