use mathlib.Core.Path.{ap, ◌∙◌}
use borrow.Author.Tests.{eq-eqb, ne_eqb}
use Rattle.sweep_row.specs.Row.{looked}
use Rattle.sweep_row.proofs.pass.look.Goals as goal

pub returns-then-p-eq0 : goal.returns-then-p-eq0
unfolding looked
returns-then-p-eq0 c = let v = c.see_card-s in record { value = rw (eq-eqb _ _ c.if-p-eq0.true, c.decide.ensures, v.ensures.value); typed = λ e. v.ensures.typed (ap (λ s. s.fits) v.ensures.value ∙ e) }

pub returns-else-p-eq0 : goal.returns-else-p-eq0
unfolding looked
returns-else-p-eq0 c = let v = c.see_card-s in record { value = rw (ne_eqb _ _ c.if-p-eq0.false, c.back.ensures, v.ensures.value); typed = λ e. v.ensures.typed (ap (λ s. s.fits) v.ensures.value ∙ e) }
