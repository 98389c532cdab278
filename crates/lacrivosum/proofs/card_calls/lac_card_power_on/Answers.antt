-- `lacrivosum::card_calls::lac_card_power_on` meets its contract, by those of `link_card_of`, `power_on` and `settle`. Assumes nothing.
use mathlib.Core.List.{[]}
use native.Mathlib.Omega.{arith}
use Rattle.rows.proofs.RowLaws.{overlay_nil}
use Rattle.block.specs.Out.{Out}
use Rattle.card_link.specs.declared.LinkCard.{LinkCard}
use mathlib.Core.Path.{sym, ap, ◌∙◌}
use Rattle.card_link.specs.CardCalls.{powered_on, turn_of}
use Rattle.kept_card.specs.RefusedLaws.{refused_stays}
use Rattle.lacrivosum.specs.CardLibrary.{quiet}
use Rattle.lacrivosum.specs.CardLibraryLaws.{card_short, card_called, card_says_law, quiet_declines}
use Rattle.lacrivosum.proofs.card_calls.lac_card_power_on.Goals as goal

pub returns-then-state-lt-STATE_SIZE : goal.returns-then-state-lt-STATE_SIZE
returns-then-state-lt-STATE_SIZE c = let a = c.args in record { state_value = card_short a.state.now [] _ _ c.if-state-lt-STATE_SIZE.true c.refused.ensures; state_after = λ h. absurd (omega arith) }

pub settle-requires : goal.settle-requires
settle-requires c = let a = c.args in
    (c.if-state-lt-STATE_SIZE.false, refused_stays a.state.now [] _ _ _ c.link_card_of-x.ensures (c.quiet-t.ensures ∙ ap (λ (y : LinkCard). turn_of (quiet y)) c.power_on.ensures) (quiet_declines _ _))

pub returns : goal.returns
returns c = let a = c.args in
    let long = c.if-state-lt-STATE_SIZE.false in let f : LinkCard → Out LinkCard = λ x. quiet (powered_on x) in
    let e = c.link_card_of-x.ensures in
    let turn = c.quiet-t.ensures ∙ ap (λ (y : LinkCard). turn_of (quiet y)) c.power_on.ensures in
    let kept = c.settle.ensures in
    record {
      state_value = card_called a.state.now [] _ _ f _ _ _ long e turn (sym (overlay_nil [] 0)) kept.value kept.state_after;
      state_after = λ h. card_says_law a.state.now _ f _ _ e turn kept.state_after_2;
    }
