-- `reader_link::whole::deselect` meets its contract, by that of `deselect_due`. Assumes nothing.
use mathlib.Core.Path.{sym, ◌∙◌}
use Rattle.reader_link.specs.ReaderCalls.{between, deselect_call}
use Rattle.reader_link.proofs.CallLaws.{err_two, ok_two}
use Rattle.reader_link.proofs.SaysLaws.{deselect_said}
use Rattle.reader_link.proofs.whole.deselect.Goals as goal

pub returns-in-Err : goal.returns-in-Err
unfolding deselect_call
returns-in-Err c = let a = c.args in
    let both = deselect_said a.x a.out.now (err_two (between a.x.link) a.x _ a.out.now c.in-Err.e (rw (← c.is_between.ensures) (sym c.tested.ensures ∙ c.in-Err.is)) c.declines.ensures) in
    record { value = both.0; out_after = both.1.0; result_value = both.1.1 }

pub returns : goal.returns
unfolding deselect_call
returns c = let a = c.args in
    let both = deselect_said a.x a.out.now (ok_two (between a.x.link) a.x _ a.out.now _ (rw (← c.is_between.ensures) (sym c.tested.ensures ∙ c.in_default.is)) (c.deselect_due.ensures.value, c.deselect_due.ensures.out_after)) in
    record { value = both.0; out_after = both.1.0; result_value = both.1.1 }
