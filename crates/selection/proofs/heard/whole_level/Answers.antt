use mathlib.Core.Path.{◌≡◌, sym, ◌∙◌}
use native.Mathlib.Omega.{arith}
use lib.ListN.{length}
use Rattle.selection.specs.RestLaws.{place_right, says_parity, says_check, says_whole, made_whole}
use Rattle.selection.specs.LevelLaws.{first_clean}
use borrow.Author.Rules.{rules}
use Rattle.selection.proofs.heard.whole_level.Goals as goal

pub returns-then-b-lt5 : goal.returns-then-b-lt5
returns-then-b-lt5 c = let a = c.args in
    c.not_rest.ensures
    ∙ sym (says_parity a.k a.w a.d (search rules) (search rules) (λ l m. omega arith) _ (search rules) c.first_wrong-b.ensures c.if-b-lt5.true)

pub five_bytes-five-requires : goal.five_bytes-five-requires
five_bytes-five-requires c = let n : length c.args.d ≡ 40 = search rules in (first_clean c.args.d (omega arith)).0

pub returns-then-not-is_checked : goal.returns-then-not-is_checked
returns-then-not-is_checked c = let a = c.args in
    c.not_rest-then-not-is_checked.ensures
    ∙ sym (says_check a.k a.w a.d (search rules) (search rules) (λ l m. omega arith) (place_right a.k _ a.w (search rules) c.first_wrong-b.ensures c.if-b-lt5.false) (search rules)
    (rw (← c.five_bytes-five.ensures) (sym c.is_checked.ensures ∙ c.if-not-is_checked.true)))

pub returns : goal.returns
returns c = let a = c.args in
    made_whole a.d _ (search rules) c.five_bytes-five.ensures
    ∙ sym (says_whole a.k a.w a.d (search rules) (search rules) (λ l m. omega arith) (place_right a.k _ a.w (search rules) c.first_wrong-b.ensures c.if-b-lt5.false) (search rules)
    (rw (← c.five_bytes-five.ensures) (sym c.is_checked.ensures ∙ c.if-not-is_checked.false)))
