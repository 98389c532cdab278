-- `reader_link::whole::rats` meets its contract, by that of `selection::within::rats`. Assumes nothing.
use mathlib.Core.Path.{◌≡◌, sym, ◌∙◌}
use lib.ListN.{length}
use native.Mathlib.Omega.{arith}
use borrow.Author.Rules.{rules}
use Rattle.reader_link.specs.ReaderCalls.{rats_due, rats_call}
use Rattle.reader_link.specs.WholeLaws.{rats_index, rats_sent}
use Rattle.reader_link.proofs.CallLaws.{err_two, ok_two}
use Rattle.reader_link.proofs.SaysLaws.{rats_said}
use Rattle.reader_link.proofs.whole.rats.Goals as goal

pub returns-in-Err : goal.returns-in-Err
unfolding rats_call
returns-in-Err c = let a = c.args in
    let both = rats_said a.x a.out.now a.index (err_two (rats_due a.x.link a.x.reader) a.x _ a.out.now c.in-Err.e (rw (← c.rats_due.ensures) (sym c.tested.ensures ∙ c.in-Err.is)) c.declines.ensures) in
    record { value = both.0; out_after = both.1.0; result_value = both.1.1 }

pub returns-then-index-gt8 : goal.returns-then-index-gt8
unfolding rats_call
returns-then-index-gt8 c = let a = c.args in
    let both = rats_said a.x a.out.now a.index (ok_two (rats_due a.x.link a.x.reader) a.x _ a.out.now _ (rw (← c.rats_due.ensures) (sym c.tested.ensures ∙ c.in_default.is)) (rats_index a.x a.index a.out.now c.if-index-gt8.true c.declines-then-index-gt8.ensures)) in
    record { value = both.0; out_after = both.1.0; result_value = both.1.1 }

pub returns : goal.returns
unfolding rats_call
returns c = let a = c.args in
    let n : length c.rats.result ≡ 36 = search rules in
    let both = rats_said a.x a.out.now a.index (ok_two (rats_due a.x.link a.x.reader) a.x _ a.out.now _ (rw (← c.rats_due.ensures) (sym c.tested.ensures ∙ c.in_default.is)) (rats_sent a.x a.index a.out.now c.rats.result _ (omega (arith, c.if-index-gt8.false)) n c.rats.ensures c.put.ensures)) in
    record { value = both.0; out_after = both.1.0; result_value = both.1.1 }
