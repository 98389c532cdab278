-- `card::within::take_active` meets its contract: the rules of Active at what the tests told. Assumes nothing.
use mathlib.Core.Path.{◌≡◌, refl, sym, ap, ap₂, ◌∙◌}
use mathlib.Core.Bool.{true, false}
use mathlib.Core.List.{[]}
use native.Mathlib.Omega.{arith}
use Rattle.selection.specs.Selection.{ats, at_most8}
use Rattle.card.specs.declared.CardState.TheVariants.{Protocol}
use Rattle.card.specs.RatsLaws.{rats_is}
use Rattle.card.specs.Card.{Step, home, active_in, rules}
use Rattle.card.proofs.RulesLaws.{active_step}
use Rattle.card.specs.TakenLaws.{handed, unmoved, told}
use Rattle.card.proofs.within.take_active.Goals as goal
use Rattle.card.proofs.within.take_active.Goals.{else-c-via-then-c+else-is_rats, else-c-via-else-c}

pub returns-then-is_same : goal.returns-then-is_same
returns-then-is_same c = let a = c.args in
    let x = told a.row.now c.is_same.ensures c.hlta.ensures c.if-is_same.true in let both = unmoved a.c a.out.now (active_step a.c a.row.now a.woken true _ _ x refl refl) c.silent.ensures in record { value = both.0; out_after = both.1 }

pub fsdi-requires : goal.fsdi-requires
fsdi-requires c = omega (arith, (rats_is c.args.row.now (sym c.is_rats.ensures ∙ c.if-is_rats.true)).0)

pub overflow_cast-fsdi : goal.overflow_cast-fsdi
overflow_cast-fsdi c = omega (arith, c.fsdi.ensures, (rats_is c.args.row.now (sym c.is_rats.ensures ∙ c.if-is_rats.true)).1)

pub returns-then-is_rats : goal.returns-then-is_rats
returns-then-is_rats c = let a = c.args in
    let x = told a.row.now c.is_same.ensures c.hlta.ensures c.if-is_same.false in
    let y = sym c.is_rats.ensures ∙ c.if-is_rats.true in
    let i = c.at_most_8-theirs.ensures ∙ ap at_most8 c.fsdi.ensures in
    let r = c.ats.ensures ∙ ap ats c.at_most_8-ours.ensures in let both = handed a.c a.out.now (ap₂ (λ i r. (Protocol i, r)) i r ∙ active_step a.c a.row.now a.woken false true true x c.if-c.true y) (c.send.ensures.value, c.send.ensures.out_after) in record { value = both.0; out_after = both.1 }

pub returns : goal.returns
returns c =
    let a = c.args in
    let f = a.row.now in
    let x = told f c.is_same.ensures c.hlta.ensures c.if-is_same.false in
    let s : ◌≡◌ {A = Step} (home a.woken, []) (rules a.c (active_in a.woken) f) = elim c.else-c.branch [
      | else-c-via-then-c+else-is_rats w ↦ active_step a.c f a.woken false true false x w.if-c.true (sym w.is_rats.ensures ∙ w.if-is_rats.false)
      | else-c-via-else-c w ↦ active_step a.c f a.woken false false _ x w.if-c.false refl
    ] in
    let both = unmoved a.c a.out.now (ap (λ s. (s, [])) c.home.ensures ∙ s) c.silent-2.ensures in
    record { value = both.0; out_after = both.1 }
