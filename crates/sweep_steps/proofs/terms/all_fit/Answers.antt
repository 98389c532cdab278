-- `sweep_steps::terms::all_fit` meets its contract. Assumes nothing.
use mathlib.Core.Path.{◌∙◌}
use borrow.Author.Rules.{rules}
use borrow.Author.Tests.{tests}
use Rattle.std.proofs.lemmas.Iterator.{YieldsList-from_slice, cases_from_all}
use Rattle.std.proofs.lemmas.Bool.Decides.{when_true}
use Rattle.sweep_rules.specs.Demand.{Typed}
use Rattle.std.proofs.lemmas.Iterator.Search.{all_from_yields_List}
use Rattle.sweep_rules.specs.Terms.{card_fits}
use Rattle.sweep_steps.specs.TermLaws.{all_fit_is, typed}
use Rattle.sweep_steps.proofs.terms.all_fit.Goals as goal

pub returns : goal.returns
returns c = let a = c.args in
    record {
      value = all_from_yields_List card_fits _ _ _ c.all.ensures.ran (YieldsList-from_slice a.cards.now cc) (λ x b q k. search (rules, tests)) ∙ all_fit_is a.cards.now;
      all = λ t. typed a.cards.now (when_true _ _ t (cases_from_all _ _ _ Typed (λ x. Unit {0}) c.all.ensures.ran (YieldsList-from_slice a.cards.now cc) (λ x q k. search (rules, tests)) (λ x q k. tt)));
    }
