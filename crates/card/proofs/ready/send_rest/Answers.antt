-- `card::ready::send_rest` meets its contract: the rest of the row is what the definition drops to. Assumes nothing.
use mathlib.Core.Path.{ap₂}
use borrow.Author.Rules.{rules}
use Rattle.card.proofs.ReadyLaws.{rest_made}
use Rattle.card.specs.TakenLaws.{handed}
use Rattle.card.proofs.ready.send_rest.Goals as goal

pub returns : goal.returns
returns c = let a = c.args in let both = handed a.c a.out.now (ap₂ (λ s r. (s, r)) c.ready_in.ensures (rest_made a.k _ a.five _ c.requires.0 (search rules) c.cut-rest.ensures c.level_row.ensures)) (c.send.ensures.value, c.send.ensures.out_after) in record { value = both.0; out_after = both.1 }
