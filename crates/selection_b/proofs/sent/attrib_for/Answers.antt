-- `selection_b::sent::attrib_for` meets its contract, by that of `attrib`. Assumes nothing.
use mathlib.Core.Path.{◌≡◌, refl, ap₂, ◌∙◌}
use lib.ListN.{length}
use native.Mathlib.Omega.{arith}
use Rattle.selection_b.specs.TypeB.{attrib, parameters_for, attrib_for}
use Rattle.selection_b.proofs.SentBLaws.{pupi_of}
use borrow.Author.Rules.{rules}
use Rattle.selection_b.proofs.sent.attrib_for.Goals as goal

pub returns : goal.returns
unfolding attrib_for parameters_for
returns c = let a = c.args in
    let n : length a.atqb ≡ 12 = search rules in
    c.attrib.ensures ∙ rw c.kind_of-kind.ensures (ap₂ attrib (pupi_of a.atqb (omega arith)) refl)
