-- `card_b::power_on` meets its contract, by that of `powered`. Assumes nothing.
use mathlib.Core.Path.{ap, ◌∙◌}
use Rattle.card_b.specs.CardB.{with_state}
use Rattle.card_b.proofs.power_on.Goals as goal

pub returns : goal.returns
returns c = c.with_state.ensures ∙ ap (with_state c.args.c) c.powered.ensures
