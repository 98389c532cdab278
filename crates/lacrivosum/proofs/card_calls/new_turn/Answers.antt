-- `lacrivosum::card_calls::new_turn` meets its contract, by the law `new_turn`. Assumes nothing.
use Rattle.std.proofs.Common.{sym, ap, ◌∙◌}
use Rattle.card_link.specs.CardCalls.{turn_of}
use Rattle.lacrivosum.specs.CardLibrary.{new_by}
use Rattle.lacrivosum.specs.CardLibraryLaws.{new_turn}
use Rattle.lacrivosum.proofs.card_calls.new_turn.Goals as goal

pub returns-in-Ok : goal.returns-in-Ok
returns-in-Ok c = let a = c.args in
    new_turn a.x a.uid.now a.blocks a.index _ _ _ c.speaks.ensures c.new_card.ensures.value (c.quiet.ensures ∙ ap (λ m. turn_of (new_by a.x m)) (sym c.in-Ok.is))

pub returns-in-Err : goal.returns-in-Err
returns-in-Err c = let a = c.args in
    new_turn a.x a.uid.now a.blocks a.index _ _ _ c.speaks.ensures c.new_card.ensures.value (ap (λ m. turn_of (new_by a.x m)) (sym c.in-Err.is))
