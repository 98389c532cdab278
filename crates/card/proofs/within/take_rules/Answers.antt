-- `card::within::take_rules` meets its contract, state by state: Off and Protocol keep still. Assumes nothing.
use Rattle.std.proofs.Common.{◌≡◌, sym, ap, ◌∙◌, []}
use mathlib.Core.Logic.{inl, inr}
use Rattle.card.specs.Card.{Step, rules}
use Rattle.card.specs.TakenLaws.{unmoved}
use Rattle.card.proofs.within.take_rules.Goals as goal

pub returns-in-Off : goal.returns-in-Off
unfolding rules
returns-in-Off c =
    let a = c.args in
    let s : ◌≡◌ {A = Step} (a.c.state, []) (rules a.c a.c.state a.row.now) = elim c.in-Off.is [
      | inl e ↦ ap (λ s. (s, [])) e ∙ ap (λ s. rules a.c s a.row.now) (sym e)
      | inr e ↦ ap (λ s. (s, [])) e.1 ∙ ap (λ s. rules a.c s a.row.now) (sym e.1)
    ] in
    let both = unmoved a.c a.out.now s c.silent.ensures in
    record { value = both.0; out_after = both.1 }
