-- `card_link::whole::take` meets its contract, by that of `take_due`. Assumes nothing.
use mathlib.Core.Path.{refl, sym, ◌∙◌}
use Rattle.std.specs.Prelude.{not}
use lib.ListN.{length}
use Rattle.rows.proofs.RowLaws.{overlay_nil}
use Rattle.card_link.specs.CardCalls.{owing, take_call}
use Rattle.card_link.specs.WholeLaws.{three}
use Rattle.card_link.proofs.CallLaws.{called_err, called_ok}
use Rattle.card_link.proofs.SaysLaws.{take_said}
use Rattle.card_link.proofs.whole.take.Goals as goal

pub returns-in-Err : goal.returns-in-Err
unfolding take_call
returns-in-Err c = let a = c.args in
    let e = called_err (not (owing a.x)) a.x a.buffer.now (length a.out.now) _ c.in-Err.e (rw (← c.is_owing.ensures) (sym c.tested.ensures ∙ c.in-Err.is)) in
    let both = take_said a.x a.row.now a.answer.now a.buffer.now a.out.now (three a.out.now (sym e) (c.declines.ensures, (refl, sym (overlay_nil a.out.now 0)))) in
    record { value = both.0; buffer_after = both.1.0; out_after = both.1.1.0; told_value = both.1.1.1 }

pub returns : goal.returns
unfolding take_call
returns c = let a = c.args in
    let e = called_ok (not (owing a.x)) a.x a.buffer.now (length a.out.now) _ _ (rw (← c.is_owing.ensures) (sym c.tested.ensures ∙ c.in_default.is)) in
    let both = take_said a.x a.row.now a.answer.now a.buffer.now a.out.now (three a.out.now (sym e) (c.take_due.ensures.value, (c.take_due.ensures.buffer_after, c.take_due.ensures.out_after))) in
    record { value = both.0; buffer_after = both.1.0; out_after = both.1.1.0; told_value = both.1.1.1 }
