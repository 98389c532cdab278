-- `card_link::whole::ask` meets its contract, by those of `asks` and `finish`. Assumes nothing.
use mathlib.Core.Path.{sym, ap, ◌∙◌}
use mathlib.Core.List.{[]}
use lib.ListN.{length}
use Rattle.rows.proofs.RowLaws.{overlay_nil}
use Rattle.card_blocks.specs.CardFrames.{card_out, card_wtx}
use Rattle.card_link.specs.CardCalls.{with_row, owing, ask_call}
use Rattle.card_link.specs.WholeLaws.{two}
use Rattle.card_link.proofs.CallLaws.{called_err, called_ok}
use Rattle.card_link.proofs.SaysLaws.{ask_said}
use Rattle.card_link.proofs.whole.ask.Goals as goal

pub returns-in-Err : goal.returns-in-Err
unfolding ask_call
returns-in-Err c = let a = c.args in
    let e = called_err (owing a.x) a.x [] (length a.out.now) _ c.in-Err.e (rw (← c.is_owing.ensures) (sym c.tested.ensures ∙ c.in-Err.is)) in
    let both = ask_said a.x a.wtx a.out.now (two a.out.now (sym e) (c.declines.ensures, sym (overlay_nil a.out.now 0))) in
    record { value = both.0; out_after = both.1.0; told_value = both.1.1 }

pub returns : goal.returns
unfolding ask_call card_wtx
returns c = let a = c.args in
    let e = called_ok (owing a.x) a.x [] (length a.out.now) _ _ (rw (← c.is_owing.ensures) (sym c.tested.ensures ∙ c.in_default.is)) in
    let both = ask_said a.x a.wtx a.out.now (two a.out.now (ap (λ s. with_row a.x.card (card_out s [] [] 0 [])) c.asks.ensures ∙ sym e) (c.finish.ensures.value, c.finish.ensures.out_after)) in
    record { value = both.0; out_after = both.1.0; told_value = both.1.1 }
