-- `lacrivosum::card_calls::lac_card_ask` meets its contract, by those of `link_card_of`, `ask` and `settle`. Assumes nothing.
use lib.ListN.{length}
use native.Mathlib.Omega.{arith}
use Rattle.block.specs.Out.{Out}
use Rattle.card_link.specs.declared.LinkCard.{LinkCard}
use Rattle.card_link.specs.CardCalls.{ask_call}
use Rattle.kept_card.specs.RefusedLaws.{refused_stays, ask_declines}
use Rattle.lacrivosum.specs.CardLibraryLaws.{card_short, card_called, card_says_law}
use Rattle.lacrivosum.proofs.card_calls.lac_card_ask.Goals as goal

pub returns-then-state-lt-STATE_SIZE : goal.returns-then-state-lt-STATE_SIZE
returns-then-state-lt-STATE_SIZE c = let a = c.args in record { out_value = card_short a.state.now a.out.now _ _ c.if-state-lt-STATE_SIZE.true c.refused.ensures; state_after = λ h. absurd (omega arith) }

pub settle-requires : goal.settle-requires
settle-requires c = let a = c.args in
    (c.if-state-lt-STATE_SIZE.false, refused_stays a.state.now _ _ _ _ c.link_card_of-x.ensures c.ask-t.ensures.value (ask_declines _ a.wtxm (length a.out.now)))

pub returns : goal.returns
returns c = let a = c.args in
    let long = c.if-state-lt-STATE_SIZE.false in let f : LinkCard → Out LinkCard = λ x. ask_call x a.wtxm (length a.out.now) in
    let e = c.link_card_of-x.ensures in
    let turn = c.ask-t.ensures.value in
    let kept = c.settle.ensures in
    record {
      out_value = card_called a.state.now a.out.now _ _ f _ _ _ long e turn c.ask-t.ensures.out_after kept.value kept.state_after;
      state_after = λ h. card_says_law a.state.now _ f _ _ e turn kept.state_after_2;
    }
