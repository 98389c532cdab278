-- `sweep_steps::terms::is_apart` meets its contract: whether no UID is there twice is told by the cards that are left. Assumes nothing.
use mathlib.Core.Path.{◌≡◌}
use lib.ListN.{length}
use Rattle.sweep_rules.specs.Terms.{apart}
use Rattle.sweep_steps.proofs.terms.is_apart.Given as goal

abbrev pub invariant-loop-c : goal.invariant-loop-c
invariant-loop-c l = apart l.rest ≡ apart l.fn.cards

abbrev pub decreases-loop-c : goal.decreases-loop-c
decreases-loop-c l = length l.rest
