-- `reader_link::whole::start` meets its contract, by those of `sends` and `select_turn`. Assumes nothing.
use mathlib.Core.Path.{sym, ap, ◌∙◌}
use mathlib.Core.List.{[]}
use Rattle.reader.specs.Reader.{sends}
use Rattle.reader_link.specs.ReaderCalls.{is_new_in, start_call, selecting}
use Rattle.reader_link.specs.WholeLaws.{two}
use Rattle.reader_link.proofs.CallLaws.{err_two, ok_two}
use Rattle.reader_link.proofs.SaysLaws.{start_said}
use Rattle.reader_link.proofs.whole.start.Goals as goal

pub returns-in-Err : goal.returns-in-Err
unfolding start_call
returns-in-Err c = let a = c.args in
    let both = start_said a.x a.out.now a.sweeps (err_two (is_new_in a.x.link a.x.reader) a.x _ a.out.now c.in-Err.e (rw (← c.is_new.ensures) (sym c.tested.ensures ∙ c.in-Err.is)) c.declines.ensures) in
    record { value = both.0; out_after = both.1.0; result_value = both.1.1 }

pub returns : goal.returns
unfolding start_call
returns c = let a = c.args in
    let both = start_said a.x a.out.now a.sweeps (ok_two (is_new_in a.x.link a.x.reader) a.x _ a.out.now _ (rw (← c.is_new.ensures) (sym c.tested.ensures ∙ c.in_default.is)) (two a.out.now (ap (λ t. selecting t []) (c.sends-t.ensures ∙ ap sends c.blank.ensures)) (c.select_turn.ensures.value, c.select_turn.ensures.out_after))) in
    record { value = both.0; out_after = both.1.0; result_value = both.1.1 }
