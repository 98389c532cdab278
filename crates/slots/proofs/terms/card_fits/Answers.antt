-- `slots::terms::card_fits` meets its contract: what a card's type says. Assumes nothing.
use Rattle.std.proofs.Common.{rules}
use Rattle.slots.specs.TermLaws.{typed_card}
use Rattle.slots.proofs.terms.card_fits.Goals as goal

pub returns-then-is_idle_or_halted-clause-typed : goal.returns-then-is_idle_or_halted-clause-typed
returns-then-is_idle_or_halted-clause-typed c = typed_card c.args.d (search rules) (λ i. search rules) (search rules) (λ i. search rules) (search rules) (λ i. search rules)

pub returns-else-is_idle_or_halted-clause-typed : goal.returns-else-is_idle_or_halted-clause-typed
returns-else-is_idle_or_halted-clause-typed c = typed_card c.args.d (search rules) (λ i. search rules) (search rules) (λ i. search rules) (search rules) (λ i. search rules)
