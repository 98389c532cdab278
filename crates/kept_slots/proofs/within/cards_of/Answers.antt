-- `kept_slots::within::cards_of` meets its contract: it is `read` of crate kept, of cards with their slot numbers. Assumes nothing.
use mathlib.Core.Path.{ap, ◌∙◌}
use lib.ListN.{length}
use borrow.Author.Rules.{rules}
use Rattle.kept.specs.States.{array_of}
use Rattle.kept_slots.specs.KeptSlots.{field_in, read_at}
use Rattle.kept_slots.proofs.within.cards_of.Goals as goal

pub returns : goal.returns
unfolding field_in
returns c = let a = c.args in
    c.read.ensures (read_at a.numbers.now) (λ i s x q. search rules) ∙ ap (λ none. array_of (read_at a.numbers.now) none 32 (length a.numbers.now) a.b.now) c.drawn_of.ensures
