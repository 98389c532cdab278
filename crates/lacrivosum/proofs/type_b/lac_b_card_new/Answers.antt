-- `lacrivosum::type_b::lac_b_card_new` meets its contract, by those of `card_of`, `new_card` and `settle_card`. Assumes nothing.
use Prim.Native.Nat.{ℕ}
use mathlib.Core.List.{List, []}
use native.Mathlib.Omega.{arith}
use Rattle.card_b.specs.declared.CardB.{CardB}
use Rattle.card_b.specs.declared.TakenB.{TakenB}
use mathlib.Core.Path.{refl}
use Rattle.lacrivosum.specs.LibraryB.{new_call}
use Rattle.lacrivosum.specs.LibraryBLaws.{card_short, card_called, card_says_law, new_declined, refused_stays}
use Rattle.lacrivosum.proofs.type_b.lac_b_card_new.Goals as goal

pub returns-then-state-lt-STATE_SIZE : goal.returns-then-state-lt-STATE_SIZE
returns-then-state-lt-STATE_SIZE c = let a = c.args in record { protocol_value = card_short a.state.now [] _ [] _ c.if-state-lt-STATE_SIZE.true c.refused.ensures; state_after = λ h. absurd (omega arith) }

pub settle_card-requires : goal.settle_card-requires
settle_card-requires c = let a = c.args in
    (c.if-state-lt-STATE_SIZE.false, refused_stays a.state.now _ _ _ c.card_of-x.ensures c.new_card-t.ensures (new_declined _ a.pupi.now a.afi a.markers a.application.now a.protocol.now))

pub returns : goal.returns
returns c = let a = c.args in let f : CardB → TakenB = λ x. new_call x a.pupi.now a.afi a.markers a.application.now a.protocol.now in
    let g : CardB → List ℕ = λ _. [] in
    let e = c.card_of-x.ensures in
    let turn = c.new_card-t.ensures in
    let kept = c.settle_card.ensures in
    record {
      protocol_value = card_called a.state.now [] _ _ f g _ _ _ c.if-state-lt-STATE_SIZE.false e turn refl kept.value kept.state_after;
      state_after = λ h. card_says_law a.state.now _ f _ _ e turn kept.state_after_2;
    }
