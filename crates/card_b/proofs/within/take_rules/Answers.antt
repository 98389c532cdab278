-- `card_b::within::take_rules` meets its contract, by what was read of the row. Assumes nothing.
use Rattle.std.proofs.Common.{sym, ◌∙◌}
use Rattle.card_b.specs.RulesBLaws.{read_asked, read_other}
use Rattle.card_b.specs.TakenBLaws.{handed}
use Rattle.card_b.proofs.within.take_rules.Goals as goal

pub returns-in-Some : goal.returns-in-Some
returns-in-Some c =
    let a = c.args in
    let t = handed a.c a.out.now (read_asked a.row.now a.c a.c.state a.number c.in-Some.q (sym c.read_request.ensures ∙ c.in-Some.is)) (c.take_asked.ensures.value, c.take_asked.ensures.out_after) in
    record { value = t.0; out_after = t.1 }

pub returns-in-None : goal.returns-in-None
returns-in-None c =
    let a = c.args in
    let t = handed a.c a.out.now (read_other a.row.now a.c a.c.state a.number (sym c.read_request.ensures ∙ c.in-None.is)) (c.take_other.ensures.value, c.take_other.ensures.out_after) in
    record { value = t.0; out_after = t.1 }
