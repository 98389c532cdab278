-- `selection_b::heard::read_hltb` meets its contract: what the byte says. Assumes nothing.
use Rattle.selection_b.specs.HeardBLaws.{hltb_forbidden, hltb_obeys, hltb_not, says_too}
use Rattle.std.proofs.lemmas.Result.{err_from_is_err_and}
use Rattle.refusal.specs.Refusal.{made_says}
use Rattle.selection_b.proofs.heard.read_hltb.Goals as goal

pub returns-then-b-ne0 : goal.returns-then-b-ne0
returns-then-b-ne0 c =
    let t = says_too made_says (hltb_forbidden _ _ c.read_byte.ensures _ c.in_ok-b.was c.if-b-ne0.true) in
    record { value = t.0; result_value = t.1 }

pub returns : goal.returns
returns c =
    let t = says_too made_says (hltb_obeys _ _ c.read_byte.ensures _ c.in_ok-b.was c.if-b-ne0.false) in
    record { value = t.0; result_value = t.1 }

pub returns-in_err-b : goal.returns-in_err-b
returns-in_err-b c =
    let p = err_from_is_err_and c.from_residual.result c.from_residual.ensures.1 in
    let t = says_too made_says (rw (p.1, p.2) (hltb_not _ _ c.read_byte.ensures c.in_err-b.field-0.0 c.in_err-b.was)) in
    record { value = t.0; result_value = t.1 }
