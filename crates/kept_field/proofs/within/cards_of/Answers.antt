-- `kept_field::within::cards_of` meets its contract: it is `read` of crate kept, of cards. Assumes nothing.
use mathlib.Core.Path.{ap, ◌∙◌}
use borrow.Author.Rules.{rules}
use Rattle.kept.specs.States.{array_of}
use Rattle.kept_card.specs.KeptCard.{card_in}
use Rattle.kept_field.specs.KeptField.{field_in}
use Rattle.kept_field.proofs.within.cards_of.Goals as goal

pub returns : goal.returns
unfolding field_in
returns c = let a = c.args in
    c.read.ensures (λ i. card_in) (λ i s x q. search rules) ∙ ap (λ none. array_of (λ i. card_in) none 32 a.n a.b.now) c.card_of.ensures
