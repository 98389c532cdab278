-- `sweep_steps::terms::card_fits` meets its contract. Assumes nothing.
use mathlib.Core.Path.{sym, ◌∙◌}
use borrow.Author.Tests.{le-leb}
use borrow.Author.Rules.{rules}
use Rattle.std.proofs.Common.{arith}
use Rattle.std.proofs.lemmas.Bool.Decides.{nat_tests}
use Rattle.sweep_rules.specs.Terms.{card_fits}
use Rattle.sweep_steps.specs.TermLaws.{typed_card}
use Rattle.sweep_steps.proofs.terms.card_fits.Goals as goal
use Rattle.sweep_steps.proofs.terms.card_fits.Goals.{then-is_valid, else-is_valid}

pub returns-then-c-le8 : goal.returns-then-c-le8
unfolding card_fits
returns-then-c-le8 c = let k = c.args.c in
    record { value = rw (sym c.is_valid.ensures ∙ c.if-c-le8.true.0, le-leb _ _ c.if-c-le8.true.1) c.is_idle_or_halt.ensures; typed = typed_card k (search rules) (λ i. search rules) }

pub returns-else-c-le8 : goal.returns-else-c-le8
unfolding card_fits
returns-else-c-le8 c = let k = c.args.c in
    record { value = elim c.if-is_valid.branch [ then-is_valid w ↦ grind (arith, nat_tests) | else-is_valid w ↦ grind (arith, nat_tests) ]; typed = typed_card k (search rules) (λ i. search rules) }
