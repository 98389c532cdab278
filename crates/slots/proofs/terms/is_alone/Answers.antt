-- `slots::terms::is_alone` meets its contract: the test of the definition is the library's. Assumes nothing.
use Rattle.std.proofs.Common.{sym, ap, ◌∙◌, not, rules, tests}
use Rattle.std.proofs.lemmas.Iterator.{YieldsList-from_slice}
use Rattle.std.proofs.lemmas.Iterator.Search.{any_from_yields_List}
use Rattle.rows.specs.Rows.{same}
use Rattle.slots.specs.TermLaws.{any_is}
use Rattle.slots.proofs.terms.is_alone.Goals as goal

pub returns : goal.returns
returns c =
    let a = c.args in
    ap not (any_from_yields_List (λ k. same a.pupi k.card.pupi) _ _ _ c.any.ensures.ran (YieldsList-from_slice a.cards.now cc) (λ x b q k. search (rules, tests)) ∙ sym (any_is (λ k. same a.pupi k.card.pupi) a.cards.now))
