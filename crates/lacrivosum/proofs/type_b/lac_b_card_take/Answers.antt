-- `lacrivosum::type_b::lac_b_card_take` meets its contract, by those of `card_of`, `take` and `settle_card`. Assumes nothing.
use lib.ListN.{length}
use Prim.Native.Nat.{ℕ}
use mathlib.Core.List.{List}
use native.Mathlib.Omega.{arith}
use Rattle.card_b.specs.declared.CardB.{CardB}
use Rattle.card_b.specs.declared.TakenB.{TakenB}
use Rattle.card_b.specs.CallsB.{take_call, take_row}
use Rattle.lacrivosum.specs.LibraryBLaws.{card_short, card_called, card_says_law, take_declined, refused_stays}
use Rattle.lacrivosum.proofs.type_b.lac_b_card_take.Goals as goal

pub returns-then-state-lt-STATE_SIZE : goal.returns-then-state-lt-STATE_SIZE
returns-then-state-lt-STATE_SIZE c = let a = c.args in record { out_value = card_short a.state.now a.out.now _ _ _ c.if-state-lt-STATE_SIZE.true c.refused.ensures; state_after = λ h. absurd (omega arith) }

pub settle_card-requires : goal.settle_card-requires
settle_card-requires c = let a = c.args in
    (c.if-state-lt-STATE_SIZE.false, refused_stays a.state.now _ _ _ c.card_of-x.ensures c.take-t.ensures.value (take_declined _ a.number a.row.now (length a.out.now)))

pub returns : goal.returns
returns c = let a = c.args in let f : CardB → TakenB = λ x. take_call x a.number a.row.now (length a.out.now) in
    let g : CardB → List ℕ = λ x. take_row x a.number a.row.now a.out.now in
    let e = c.card_of-x.ensures in
    let turn = c.take-t.ensures.value in
    let kept = c.settle_card.ensures in
    record {
      out_value = card_called a.state.now a.out.now _ _ f g _ _ _ c.if-state-lt-STATE_SIZE.false e turn c.take-t.ensures.out_after kept.value kept.state_after;
      state_after = λ h. card_says_law a.state.now _ f _ _ e turn kept.state_after_2;
    }
