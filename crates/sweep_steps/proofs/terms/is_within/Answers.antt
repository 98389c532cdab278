-- `sweep_steps::terms::is_within` meets its contract. Assumes nothing.
use mathlib.Core.Path.{◌≡◌, sym, ◌∙◌}
use mathlib.Core.Bool.{true, false, true≢false, false≢true}
use borrow.Author.Tests.{lt-leb}
use Rattle.sweep_rules.specs.Terms.{all_fit}
use Rattle.sweep_steps.specs.TermLaws.{within_small, within_long}
use Rattle.sweep_steps.proofs.terms.is_within.Goals as goal
use Rattle.sweep_steps.proofs.terms.is_within.Goals.{then-cards-le-MOST_CARDS, else-cards-le-MOST_CARDS}

pub returns-then-all_fit : goal.returns-then-all_fit
returns-then-all_fit c = let cs = c.args.cards.now in
    elim c.if-cards-le-MOST_CARDS.branch [
      | then-cards-le-MOST_CARDS w ↦
          let t = sym w.value-is ∙ c.if-all_fit.true in
          let f : all_fit cs ≡ true = sym w.all_fit.ensures.value ∙ t in
          record { value = c.is_apart.ensures ∙ sym (rw f at (within_small cs w.if-cards-le-MOST_CARDS.true)); all = λ s. w.all_fit.ensures.all t }
      | else-cards-le-MOST_CARDS w ↦ absurd (true≢false (sym c.if-all_fit.true ∙ w.value-is ∙ lt-leb _ _ w.if-cards-le-MOST_CARDS.false))
    ]

pub returns-else-all_fit : goal.returns-else-all_fit
returns-else-all_fit c = let cs = c.args.cards.now in
    let no = c.if-all_fit.false in
    elim c.if-cards-le-MOST_CARDS.branch [
      | then-cards-le-MOST_CARDS w ↦
          let f : all_fit cs ≡ false = sym w.all_fit.ensures.value ∙ sym w.value-is ∙ no in
          record { value = no ∙ sym (rw f at (within_small cs w.if-cards-le-MOST_CARDS.true)); all = λ t. absurd (false≢true (sym no ∙ t)) }
      | else-cards-le-MOST_CARDS w ↦ record { value = no ∙ sym (within_long cs w.if-cards-le-MOST_CARDS.false); all = λ t. absurd (false≢true (sym no ∙ t)) }
    ]
