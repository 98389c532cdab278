-- `lacrivosum::type_b::lac_b_reader_request` meets its contract, by those of `reader_of`, `request` and `settle`. Assumes nothing.
use lib.ListN.{length}
use mathlib.Core.List.{List}
use Prim.Native.Nat.{ℕ}
use native.Mathlib.Omega.{arith}
use Rattle.reader_b.specs.declared.ReaderB.{ReaderB}
use Rattle.reader_b.specs.declared.TurnB.{TurnB}
use Rattle.selection_b.specs.TypeB.{request}
use Rattle.lacrivosum.specs.CardLibrary.{speaks}
use Rattle.lacrivosum.specs.LibraryB.{request_call}
use Rattle.lacrivosum.specs.LibraryBLaws.{request_is, request_row}
use Rattle.lacrivosum.specs.LibraryBLaws.{reader_short, reader_called, reader_says}
use Rattle.lacrivosum.proofs.type_b.lac_b_reader_request.Goals as goal

pub returns-then-state-lt-STATE_SIZE : goal.returns-then-state-lt-STATE_SIZE
returns-then-state-lt-STATE_SIZE c = let a = c.args in record { afi_value = reader_short a.state.now a.out.now _ _ _ c.if-state-lt-STATE_SIZE.true c.refused.ensures; state_after = λ h. absurd (omega arith) }

pub returns : goal.returns
returns c = let a = c.args in
    let long = c.if-state-lt-STATE_SIZE.false in let f : ReaderB → TurnB = λ x. request_call x a.wake a.n a.afi (length a.out.now) in
    let g : TurnB → List ℕ = λ t. request (speaks a.wake) a.n a.afi in
    let e = c.reader_of-x.ensures in
    let turn = request_is _ a.wake _ _ _ _ _ c.speaks.ensures c.request-t.ensures.value in
    let kept = c.settle.ensures in
    record {
      afi_value = reader_called a.state.now a.out.now _ _ f g _ _ _ long e turn (request_row a.wake a.n a.afi _ c.request-t.result.answer a.out.now _ c.speaks.ensures c.request-t.ensures.out_after) kept.value kept.state_after;
      state_after = λ h. reader_says a.state.now _ f _ _ e turn kept.state_after_2;
    }
