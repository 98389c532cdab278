use mathlib.Core.Path.{◌≡◌, refl, sym, ap, ◌∙◌}
use borrow.Author.Tests.{eq-eqb}
use Rattle.selection.specs.Heard.{read_atqa}
use Rattle.selection.specs.RestLaws.{awaited_yes, awaited_no}
use Rattle.frame.proofs.WrongLaws.{found_wrong, found_none}
use Rattle.std.proofs.lemmas.Result.{err_from_is_err_and}
use Rattle.refusal.specs.Refusal.{made_says}
use Rattle.selection.proofs.heard.read_atqa.Goals as goal

pub returns-in_err-awaited : goal.returns-in_err-awaited
unfolding read_atqa
returns-in_err-awaited c =
    let p = err_from_is_err_and c.from_residual.result c.from_residual.ensures.1 in
    let no : c.from_residual.result ≡ read_atqa c.args.row.now = rw (p.1, p.2) (sym (awaited_no 18 c.args.row.now _ _ (sym c.awaited.ensures ∙ c.in_err-awaited.was))) in
    record { value = no; result_value = ap made_says no }

pub returns-then-p-lt2 : goal.returns-then-p-lt2
unfolding read_atqa
returns-then-p-lt2 c = rw ((awaited_yes 18 c.args.row.now _ (sym c.awaited.ensures ∙ c.in_ok-awaited.was)).0, eq-eqb _ _ (awaited_yes 18 c.args.row.now _ (sym c.awaited.ensures ∙ c.in_ok-awaited.was)).1, found_wrong _ _ _ c.first_wrong-p.ensures c.if-p-lt2.true, ← c.first_wrong-p.ensures) record { value = refl; result_value = refl }

pub returns-then-is_same : goal.returns-then-is_same
unfolding read_atqa
returns-then-is_same c = rw ((awaited_yes 18 c.args.row.now _ (sym c.awaited.ensures ∙ c.in_ok-awaited.was)).0, eq-eqb _ _ (awaited_yes 18 c.args.row.now _ (sym c.awaited.ensures ∙ c.in_ok-awaited.was)).1, found_none _ _ _ c.first_wrong-p.ensures c.if-p-lt2.false, sym c.is_same.ensures ∙ c.if-is_same.true) record { value = refl; result_value = refl }

pub returns : goal.returns
unfolding read_atqa
returns c = rw ((awaited_yes 18 c.args.row.now _ (sym c.awaited.ensures ∙ c.in_ok-awaited.was)).0, eq-eqb _ _ (awaited_yes 18 c.args.row.now _ (sym c.awaited.ensures ∙ c.in_ok-awaited.was)).1, found_none _ _ _ c.first_wrong-p.ensures c.if-p-lt2.false, sym c.is_same.ensures ∙ c.if-is_same.false) record { value = refl; result_value = refl }
