-- `lacrivosum::card_calls::lac_card_new` meets its contract, by those of `link_card_of`, `new_turn` and `settle`. Assumes nothing.
use mathlib.Core.List.{[]}
use native.Mathlib.Omega.{arith}
use Rattle.block.specs.Out.{Out}
use Rattle.card_link.specs.declared.LinkCard.{LinkCard}
use Rattle.kept_card.specs.RefusedLaws.{refused_stays}
use Rattle.lacrivosum.specs.CardLibrary.{new_call}
use Rattle.lacrivosum.specs.CardLibraryLaws.{card_short, card_called, card_says_law, nothing_put, new_declines, new_sent}
use Rattle.lacrivosum.proofs.card_calls.lac_card_new.Goals as goal

pub returns-then-state-lt-STATE_SIZE : goal.returns-then-state-lt-STATE_SIZE
returns-then-state-lt-STATE_SIZE c = let a = c.args in record { index_value = card_short a.state.now [] _ _ c.if-state-lt-STATE_SIZE.true c.refused.ensures; state_after = λ h. absurd (omega arith) }

pub settle-requires : goal.settle-requires
settle-requires c = let a = c.args in
    (c.if-state-lt-STATE_SIZE.false, refused_stays a.state.now [] _ _ _ c.link_card_of-x.ensures c.new_turn-t.ensures (new_declines _ a.uid.now a.blocks a.index))

pub returns : goal.returns
returns c = let a = c.args in
    let long = c.if-state-lt-STATE_SIZE.false in let f : LinkCard → Out LinkCard = λ x. new_call x a.uid.now a.blocks a.index in
    let e = c.link_card_of-x.ensures in
    let turn = c.new_turn-t.ensures in
    let kept = c.settle.ensures in
    record {
      index_value = card_called a.state.now [] _ _ f _ _ _ long e turn (nothing_put (f _) (new_sent _ a.uid.now a.blocks a.index)) kept.value kept.state_after;
      state_after = λ h. card_says_law a.state.now _ f _ _ e turn kept.state_after_2;
    }
