-- `lacrivosum::lac_reader_deselect` meets its contract, by those of `reader_of`, `deselect` and `settle`. Assumes nothing.
use lib.ListN.{length}
use native.Mathlib.Omega.{arith}
use Rattle.reader_link.specs.declared.LinkReader.{LinkReader}
use Rattle.reader_link.specs.ReaderCalls.{Called, deselect_call}
use Rattle.lacrivosum.specs.LibraryLaws.{reader_short, reader_called, reader_says}
use Rattle.lacrivosum.proofs.lac_reader_deselect.Goals as goal

pub returns-then-state-lt-STATE_SIZE : goal.returns-then-state-lt-STATE_SIZE
returns-then-state-lt-STATE_SIZE c = let a = c.args in record { out_value = reader_short a.state.now a.out.now _ _ c.if-state-lt-STATE_SIZE.true c.refused.ensures; state_after = λ h. absurd (omega arith) }

pub returns : goal.returns
returns c = let a = c.args in
    let long = c.if-state-lt-STATE_SIZE.false in let f : LinkReader → Called = λ x. deselect_call x (length a.out.now) in
    let e = c.reader_of-x.ensures in
    let turn = c.deselect-t.ensures.value in
    let kept = c.settle.ensures in
    record {
      out_value = reader_called a.state.now a.out.now _ _ f _ _ _ long e turn c.deselect-t.ensures.out_after kept.value kept.state_after;
      state_after = λ h. reader_says a.state.now _ f _ _ e turn kept.state_after_2;
    }
