-- `reader_link::whole::hear` meets its contract, by that of `hear_due`. Assumes nothing.
use mathlib.Core.Path.{sym, ◌∙◌}
use Rattle.reader_link.specs.ReaderCalls.{frame_due, hear_call}
use Rattle.reader_link.proofs.CallLaws.{err_three, ok_three}
use Rattle.reader_link.proofs.SaysLaws.{hear_said}
use Rattle.reader_link.proofs.whole.hear.Goals as goal

pub returns-in-Err : goal.returns-in-Err
unfolding hear_call
returns-in-Err c = let a = c.args in
    let both = hear_said a.x a.out.now a.row.now a.message.now a.buffer.now (err_three (frame_due a.x.link a.x.reader) a.x _ a.buffer.now a.out.now c.in-Err.e (rw (← c.frame_due.ensures) (sym c.tested.ensures ∙ c.in-Err.is)) c.declines.ensures) in
    record { value = both.0; buffer_after = both.1.0; out_after = both.1.1.0; result_value = both.1.1.1 }

pub returns : goal.returns
unfolding hear_call
returns c = let a = c.args in
    let both = hear_said a.x a.out.now a.row.now a.message.now a.buffer.now (ok_three (frame_due a.x.link a.x.reader) a.x _ a.buffer.now a.out.now _ (rw (← c.frame_due.ensures) (sym c.tested.ensures ∙ c.in_default.is)) (c.hear_due.ensures.value, (c.hear_due.ensures.buffer_after, c.hear_due.ensures.out_after))) in
    record { value = both.0; buffer_after = both.1.0; out_after = both.1.1.0; result_value = both.1.1.1 }
