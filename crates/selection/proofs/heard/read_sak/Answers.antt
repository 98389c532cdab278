use Rattle.selection.specs.RestLaws.{sak_crc, sak_good}
use mathlib.Core.Path.{◌≡◌, refl, sym, ap, ◌∙◌}
use borrow.Author.Tests.{eq-eqb}
use Rattle.selection.specs.Heard.{read_sak}
use Rattle.selection.specs.SaysLaws.{with_says}
use Rattle.selection.specs.RestLaws.{awaited_yes, awaited_no}
use Rattle.frame.proofs.WrongLaws.{found_wrong, found_none}
use Rattle.std.proofs.lemmas.Result.{err_from_is_err_and}
use Rattle.selection.proofs.heard.read_sak.Goals as goal
use Rattle.refusal.specs.Refusal.{number_says}

pub returns-then-not-is_good : goal.returns-then-not-is_good
returns-then-not-is_good c = record { value = (with_says number_says _ _ (sym (sak_crc c.args.row.now _ (awaited_yes 27 c.args.row.now _ (sym c.awaited.ensures ∙ c.in_ok-awaited.was)).1 (sym c.is_clean.ensures ∙ c.if-not-is_clean.false) (found_none _ _ _ c.first_wrong-p.ensures c.if-p-lt3.false) c.bytes_of.ensures (sym c.is_good.ensures ∙ c.if-not-is_good.true)))).0; result_value = (with_says number_says _ _ (sym (sak_crc c.args.row.now _ (awaited_yes 27 c.args.row.now _ (sym c.awaited.ensures ∙ c.in_ok-awaited.was)).1 (sym c.is_clean.ensures ∙ c.if-not-is_clean.false) (found_none _ _ _ c.first_wrong-p.ensures c.if-p-lt3.false) c.bytes_of.ensures (sym c.is_good.ensures ∙ c.if-not-is_good.true)))).1 }

pub returns : goal.returns
returns c = record { value = (with_says number_says _ _ (sym (sak_good c.args.row.now _ (awaited_yes 27 c.args.row.now _ (sym c.awaited.ensures ∙ c.in_ok-awaited.was)).1 (sym c.is_clean.ensures ∙ c.if-not-is_clean.false) (found_none _ _ _ c.first_wrong-p.ensures c.if-p-lt3.false) c.bytes_of.ensures (sym c.is_good.ensures ∙ c.if-not-is_good.false)))).0; result_value = (with_says number_says _ _ (sym (sak_good c.args.row.now _ (awaited_yes 27 c.args.row.now _ (sym c.awaited.ensures ∙ c.in_ok-awaited.was)).1 (sym c.is_clean.ensures ∙ c.if-not-is_clean.false) (found_none _ _ _ c.first_wrong-p.ensures c.if-p-lt3.false) c.bytes_of.ensures (sym c.is_good.ensures ∙ c.if-not-is_good.false)))).1 }

pub returns-in_err-awaited : goal.returns-in_err-awaited
unfolding read_sak
returns-in_err-awaited c =
    let p = err_from_is_err_and c.from_residual.result c.from_residual.ensures.1 in
    let no : c.from_residual.result ≡ read_sak c.args.row.now = rw (p.1, p.2) (sym (awaited_no 27 c.args.row.now _ _ (sym c.awaited.ensures ∙ c.in_err-awaited.was))) in
    record { value = no; result_value = ap number_says no }

pub returns-then-not-is_clean : goal.returns-then-not-is_clean
unfolding read_sak
returns-then-not-is_clean c = rw ((awaited_yes 27 c.args.row.now _ (sym c.awaited.ensures ∙ c.in_ok-awaited.was)).0, eq-eqb _ _ (awaited_yes 27 c.args.row.now _ (sym c.awaited.ensures ∙ c.in_ok-awaited.was)).1, sym c.is_clean.ensures ∙ c.if-not-is_clean.true) record { value = refl; result_value = refl }

pub returns-then-p-lt3 : goal.returns-then-p-lt3
unfolding read_sak
returns-then-p-lt3 c = rw ((awaited_yes 27 c.args.row.now _ (sym c.awaited.ensures ∙ c.in_ok-awaited.was)).0, eq-eqb _ _ (awaited_yes 27 c.args.row.now _ (sym c.awaited.ensures ∙ c.in_ok-awaited.was)).1, sym c.is_clean.ensures ∙ c.if-not-is_clean.false, found_wrong _ _ _ c.first_wrong-p.ensures c.if-p-lt3.true, ← c.first_wrong-p.ensures) record { value = refl; result_value = refl }
