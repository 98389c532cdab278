-- `lacrivosum::type_b::lac_b_card_power_off` meets its contract, by those of `card_of`, `power_off` and `settle_card`. Assumes nothing.
use Prim.Native.Nat.{ℕ}
use mathlib.Core.List.{List, []}
use native.Mathlib.Omega.{arith}
use Rattle.card_b.specs.declared.CardB.{CardB}
use Rattle.card_b.specs.declared.TakenB.{TakenB}
use mathlib.Core.Path.{refl, ap, ◌∙◌}
use Rattle.card_b.specs.CardB.{power_off}
use Rattle.lacrivosum.specs.LibraryB.{silent}
use Rattle.lacrivosum.specs.LibraryBLaws.{card_short, card_called, card_says_law, silent_declined, refused_stays}
use Rattle.lacrivosum.proofs.type_b.lac_b_card_power_off.Goals as goal

pub returns-then-state-lt-STATE_SIZE : goal.returns-then-state-lt-STATE_SIZE
returns-then-state-lt-STATE_SIZE c = let a = c.args in record { state_value = card_short a.state.now [] _ [] _ c.if-state-lt-STATE_SIZE.true c.refused.ensures; state_after = λ h. absurd (omega arith) }

pub settle_card-requires : goal.settle_card-requires
settle_card-requires c = let a = c.args in
    (c.if-state-lt-STATE_SIZE.false, refused_stays a.state.now _ _ _ c.card_of-x.ensures (c.silent-t.ensures ∙ ap (λ (y : CardB). silent y) c.power_off.ensures) (silent_declined _ _))

pub returns : goal.returns
returns c = let a = c.args in let f : CardB → TakenB = λ x. silent (power_off x) in
    let g : CardB → List ℕ = λ _. [] in
    let e = c.card_of-x.ensures in
    let turn = (c.silent-t.ensures ∙ ap (λ (y : CardB). silent y) c.power_off.ensures) in
    let kept = c.settle_card.ensures in
    record {
      state_value = card_called a.state.now [] _ _ f g _ _ _ c.if-state-lt-STATE_SIZE.false e turn refl kept.value kept.state_after;
      state_after = λ h. card_says_law a.state.now _ f _ _ e turn kept.state_after_2;
    }
