-- `card_link::whole::reply` meets its contract, by those of `replies` and `finish`. Assumes nothing.
use mathlib.Core.Path.{sym, ap, ◌∙◌}
use mathlib.Core.List.{[]}
use lib.ListN.{length}
use Rattle.rows.proofs.RowLaws.{overlay_nil}
use Rattle.card_blocks.specs.CardFrames.{card_out, card_reply}
use Rattle.card_link.specs.CardCalls.{with_row, owing, reply_call}
use Rattle.card_link.specs.WholeLaws.{two}
use Rattle.card_link.proofs.CallLaws.{called_err, called_ok}
use Rattle.card_link.proofs.SaysLaws.{reply_said}
use Rattle.card_link.proofs.whole.reply.Goals as goal

pub returns-in-Err : goal.returns-in-Err
unfolding reply_call
returns-in-Err c = let a = c.args in
    let e = called_err (owing a.x) a.x [] (length a.out.now) _ c.in-Err.e (rw (← c.is_owing.ensures) (sym c.tested.ensures ∙ c.in-Err.is)) in
    let both = reply_said a.x a.answer.now a.out.now (two a.out.now (sym e) (c.declines.ensures, sym (overlay_nil a.out.now 0))) in
    record { value = both.0; out_after = both.1.0; told_value = both.1.1 }

pub returns : goal.returns
unfolding reply_call card_reply
returns c = let a = c.args in
    let e = called_ok (owing a.x) a.x [] (length a.out.now) _ _ (rw (← c.is_owing.ensures) (sym c.tested.ensures ∙ c.in_default.is)) in
    let both = reply_said a.x a.answer.now a.out.now (two a.out.now (ap (λ s. with_row a.x.card (card_out s a.answer.now [] 0 [])) c.replies.ensures ∙ sym e) (c.finish.ensures.value, c.finish.ensures.out_after)) in
    record { value = both.0; out_after = both.1.0; told_value = both.1.1 }
