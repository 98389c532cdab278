-- `slots::terms::is_apart` meets its contract. The loop's invariant: the test of what is left is the test of all. Assumes nothing.
use Rattle.std.proofs.Common.{◌≡◌, drop}
use Rattle.slots_rules.specs.TermsB.{apart}
use Rattle.slots.proofs.terms.is_apart.Given as goal

abbrev pub invariant-loop-i : goal.invariant-loop-i
invariant-loop-i l = apart (drop l.i l.cards) ≡ apart l.cards
