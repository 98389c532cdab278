-- `reader_link::whole::send` meets its contract, by that of `send_due`. Assumes nothing.
use mathlib.Core.Path.{sym, ◌∙◌}
use Rattle.reader_link.specs.ReaderCalls.{between, send_call}
use Rattle.reader_link.proofs.CallLaws.{err_two, ok_two}
use Rattle.reader_link.proofs.SaysLaws.{send_said}
use Rattle.reader_link.proofs.whole.send.Goals as goal

pub returns-in-Err : goal.returns-in-Err
unfolding send_call
returns-in-Err c = let a = c.args in
    let both = send_said a.x a.out.now a.message.now (err_two (between a.x.link) a.x _ a.out.now c.in-Err.e (rw (← c.is_between.ensures) (sym c.tested.ensures ∙ c.in-Err.is)) c.declines.ensures) in
    record { value = both.0; out_after = both.1.0; result_value = both.1.1 }

pub returns : goal.returns
unfolding send_call
returns c = let a = c.args in
    let both = send_said a.x a.out.now a.message.now (ok_two (between a.x.link) a.x _ a.out.now _ (rw (← c.is_between.ensures) (sym c.tested.ensures ∙ c.in_default.is)) (c.send_due.ensures.value, c.send_due.ensures.out_after)) in
    record { value = both.0; out_after = both.1.0; result_value = both.1.1 }
