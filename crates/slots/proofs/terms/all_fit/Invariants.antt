-- `slots::terms::all_fit` meets its contract. The loop's invariant: the test of what is left is the test of all. Assumes nothing.
use Rattle.std.proofs.Common.{◌≡◌, take, drop}
use Rattle.rows.specs.Rows.{All}
use Rattle.slots_rules.specs.Claim.{Typed}
use Rattle.slots_rules.specs.TermsB.{all_fit}
use Rattle.slots.proofs.terms.all_fit.Given as goal

abbrev pub invariant-loop-d : goal.invariant-loop-d
invariant-loop-d l = (all_fit l.n (drop l.d-index l.cards) ≡ all_fit l.n l.cards) × All Typed (take l.d-index l.cards)
