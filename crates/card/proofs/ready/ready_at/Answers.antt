-- `card::ready::ready_at` meets its contract: the rules of Ready at what the tests told. Assumes nothing.
use mathlib.Core.Path.{refl, ap, ◌∙◌}
use mathlib.Core.Bool.{true, false}
use mathlib.Core.List.{[]}
use native.Mathlib.Omega.{arith}
use borrow.Author.Rules.{rules}
use Rattle.selection.specs.Selection.{others}
use Rattle.card.specs.Card.{ready_in}
use Rattle.card.proofs.ReadyLaws.{match_few, ready_step}
use Rattle.card.specs.TakenLaws.{handed, unmoved, told}
use Rattle.card.proofs.ready.ready_at.Goals as goal

pub overflow_cast-k : goal.overflow_cast-k
overflow_cast-k c = let a = c.args in
    omega (arith, match_few a.l a.five a.row.now _ c.bits_sent-k.ensures _ c.is_matching.ensures c.if-is_matching.true)

pub send_rest-requires : goal.send_rest-requires
send_rest-requires c = let a = c.args in
    (match_few a.l a.five a.row.now _ c.bits_sent-k.ensures _ c.is_matching.ensures c.if-is_matching.true, search rules)

pub returns-then-is_matching : goal.returns-then-is_matching
returns-then-is_matching c = let a = c.args in
    let e = ready_step a.c a.woken a.l a.five a.row.now true _ c.is_matching.ensures c.if-is_matching.true refl in let both = handed a.c a.out.now (ap (λ k. (ready_in a.woken a.l, others k a.five)) c.bits_sent-k.ensures ∙ e) (c.send_rest.ensures.value, c.send_rest.ensures.out_after) in record { value = both.0; out_after = both.1 }

pub returns-then-is_same : goal.returns-then-is_same
returns-then-is_same c = let a = c.args in
    let s = told a.row.now c.is_same.ensures c.select.ensures c.if-is_same.true in
    let e = ready_step a.c a.woken a.l a.five a.row.now false true c.is_matching.ensures c.if-is_matching.false s in let both = handed a.c a.out.now e (c.send_sak.ensures.value, c.send_sak.ensures.out_after) in record { value = both.0; out_after = both.1 }

pub returns : goal.returns
returns c = let a = c.args in
    let s = told a.row.now c.is_same.ensures c.select.ensures c.if-is_same.false in
    let e = ready_step a.c a.woken a.l a.five a.row.now false false c.is_matching.ensures c.if-is_matching.false s in let both = unmoved a.c a.out.now (ap (λ s. (s, [])) c.home.ensures ∙ e) c.silent.ensures in record { value = both.0; out_after = both.1 }
