-- `exchange::exchange` meets its contract: it is `lossy` without numbers, and so the run of demand 2. Assumes nothing.
use mathlib.Core.Path.{◌∙◌}
use Rattle.rows.specs.ListLaws.{bytes_at_law}
use Rattle.exchange.proofs.RunLaws.{clean_is, exchanges}
use Rattle.exchange.proofs.exchange.Goals as goal

pub returns : goal.returns
returns c = let a = c.args in
    let e = c.lossy.ensures ∙ clean_is a.reader a.card a.message.now a.before.now a.answer.now a.rounds a.down.now a.up.now in record { up_after = e; by_index = exchanges a.reader a.card a.message.now a.before.now a.answer.now a.rounds a.down.now a.up.now _ _ c.lossy.result (bytes_at_law a.message.now c.type_inv.message) (bytes_at_law a.before.now c.type_inv.before) (bytes_at_law a.answer.now c.type_inv.answer) e }
