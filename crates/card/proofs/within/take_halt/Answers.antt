-- `card::within::take_halt` meets its contract: the rules of Halt at what the test told. Assumes nothing.
use mathlib.Core.Bool.{true, false}
use Rattle.card.proofs.RulesLaws.{halt_step}
use Rattle.card.specs.TakenLaws.{handed, unmoved, told}
use Rattle.card.proofs.within.take_halt.Goals as goal

pub returns-then-is_same : goal.returns-then-is_same
returns-then-is_same c = let a = c.args in
    let x = told a.row.now c.is_same.ensures c.wupa.ensures c.if-is_same.true in let both = handed a.c a.out.now (halt_step a.c a.row.now true x) (c.send_atqa.ensures.value, c.send_atqa.ensures.out_after) in record { value = both.0; out_after = both.1 }

pub returns : goal.returns
returns c = let a = c.args in
    let x = told a.row.now c.is_same.ensures c.wupa.ensures c.if-is_same.false in let both = unmoved a.c a.out.now (halt_step a.c a.row.now false x) c.silent.ensures in record { value = both.0; out_after = both.1 }
