-- `lacrivosum::lac_reader_hear` meets its contract, by those of `reader_of`, `hear` and `settle`. Assumes nothing.
use lib.ListN.{length}
use native.Mathlib.Omega.{arith}
use Rattle.reader_link.specs.declared.LinkReader.{LinkReader}
use Rattle.reader_link.specs.ReaderCalls.{Called, hear_call}
use Rattle.lacrivosum.specs.LibraryLaws.{left_short, left_by_law, reader_short, reader_called, reader_says}
use Rattle.lacrivosum.proofs.lac_reader_hear.Goals as goal

pub returns-then-state-lt-STATE_SIZE : goal.returns-then-state-lt-STATE_SIZE
returns-then-state-lt-STATE_SIZE c = let a = c.args in record { out_value = reader_short a.state.now a.out.now _ _ c.if-state-lt-STATE_SIZE.true c.refused.ensures; buffer_after = left_short a.state.now a.buffer.now _ c.if-state-lt-STATE_SIZE.true; state_after = λ h. absurd (omega arith) }

pub returns : goal.returns
returns c = let a = c.args in
    let long = c.if-state-lt-STATE_SIZE.false in
    let f : LinkReader → Called = λ x. hear_call x a.row.now a.message.now a.buffer.now (length a.out.now) in
    let e = c.reader_of-x.ensures in
    let turn = c.hear-t.ensures.value in
    let kept = c.settle.ensures in
    record {
      out_value = reader_called a.state.now a.out.now _ _ f _ _ _ long e turn c.hear-t.ensures.out_after kept.value kept.state_after;
      buffer_after = left_by_law a.state.now a.buffer.now _ f _ long e c.hear-t.ensures.buffer_after;
      state_after = λ h. reader_says a.state.now _ f _ _ e turn kept.state_after_2;
    }
