-- `card::new_card` meets its contract: the definition has the same tests, in the same order. Assumes nothing.
use Rattle.std.proofs.Common.{◌≡◌, sym, ◌∙◌, arith}
use borrow.Author.Tests.{lt-ltb, le-ltb}
use Rattle.std.specs.Prelude.{Err, Ok}
use Rattle.refusal.specs.declared.Refusal.TheVariants.{Argument}
use Rattle.std.proofs.lemmas.Result.{err_from_is_err_and}
use Rattle.uid.specs.Calls.{new_uid}
use Rattle.card.specs.Calls.{new_card}
use Rattle.card.specs.SaysLaws.{card_made}
use Rattle.card.proofs.new_card.Goals as goal

pub returns-then-index-gt8 : goal.returns-then-index-gt8
unfolding new_card
returns-then-index-gt8 c =
    let a = c.args in
    let both = card_made a.bytes.now a.blocks a.index (Err Argument) (rw (lt-ltb 8 a.index (omega arith))) in
    record { value = both.0; made_value = both.1 }

pub returns-in_err-uid : goal.returns-in_err-uid
unfolding new_card
returns-in_err-uid c =
    let a = c.args in
    let e = c.in_err-uid.field-0.0 in
    let p = err_from_is_err_and c.from_residual.result c.from_residual.ensures.1 in
    let n : Err e ≡ new_uid a.bytes.now = sym (c.in_err-uid.was) ∙ c.new_uid.ensures.value in
    let both = card_made a.bytes.now a.blocks a.index c.from_residual.result (rw (p.1, p.2, le-ltb 8 a.index (omega arith), ← n)) in
    record { value = both.0; made_value = both.1 }

pub returns : goal.returns
unfolding new_card
returns c =
    let a = c.args in
    let n : Ok c.in_ok-uid.uid ≡ new_uid a.bytes.now = sym (c.in_ok-uid.was) ∙ c.new_uid.ensures.value in
    let both = card_made a.bytes.now a.blocks a.index _ (rw (le-ltb 8 a.index (omega arith), ← n)) in
    record { value = both.0; made_value = both.1 }
