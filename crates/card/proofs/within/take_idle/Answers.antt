-- `card::within::take_idle` meets its contract: the rules of Idle at what the tests told. Assumes nothing.
use Rattle.std.proofs.Common.{◌≡◌, refl, true, false}
use Rattle.selection.specs.Selection.{atqa}
use Rattle.uid.specs.declared.Level.TheVariants.{One}
use Rattle.card.specs.declared.CardState.TheVariants.{Idle, Ready}
use Rattle.card.specs.Card.{Step, rules}
use Rattle.card.proofs.RulesLaws.{idle_step}
use Rattle.card.specs.TakenLaws.{handed, unmoved, told}
use Rattle.card.proofs.within.take_idle.Goals as goal
use Rattle.card.proofs.within.take_idle.Goals.{then-is_same-via-then-is_same, then-is_same-via-else-is_same+then-is_same-2}

pub returns-then-is_same : goal.returns-then-is_same
returns-then-is_same c =
    let a = c.args in
    let f = a.row.now in
    let s : ◌≡◌ {A = Step} (Ready One, atqa a.c.uid.size) (rules a.c Idle f) = elim c.then-is_same.branch [
      | then-is_same-via-then-is_same w ↦ idle_step a.c f true _ (told f c.is_same.ensures c.reqa.ensures w.if-is_same.true) refl
      | then-is_same-via-else-is_same+then-is_same-2 w ↦
          idle_step a.c f false true (told f c.is_same.ensures c.reqa.ensures w.if-is_same.false) (told f w.is_same-else-is_same.ensures w.wupa.ensures w.if-is_same-2.true)
    ] in
    let both = handed a.c a.out.now s (c.send_atqa.ensures.value, c.send_atqa.ensures.out_after) in
    record { value = both.0; out_after = both.1 }

pub returns : goal.returns
returns c =
    let a = c.args in
    let f = a.row.now in
    let x = told f c.is_same.ensures c.reqa.ensures c.if-is_same.false in
    let y = told f c.is_same-else-is_same.ensures c.wupa.ensures c.if-is_same-2.false in
    let both = unmoved a.c a.out.now (idle_step a.c f false false x y) c.silent.ensures in
    record { value = both.0; out_after = both.1 }
