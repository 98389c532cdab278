-- `memory::within::keeps` meets its contract. Assumes nothing.
use mathlib.Core.Path.{sym, ap, ◌∙◌}
use mathlib.Core.Bool.{true, false}
use Rattle.memory.specs.Stored.{path_of, stored}
use Rattle.memory.proofs.StoredLaws.{keeps_on}
use Rattle.memory.proofs.within.keeps.Goals as goal

pub returns-then-is_on : goal.returns-then-is_on
returns-then-is_on c = let a = c.args in
    c.args.p.kept.zeros ∙ ap stored (sym (keeps_on a.a (path_of a.p.path) true (sym c.is_on.ensures ∙ c.if-is_on.true)))

pub returns-else-is_on : goal.returns-else-is_on
returns-else-is_on c = let a = c.args in
    c.empty.ensures ∙ ap stored (sym (keeps_on a.a (path_of a.p.path) false (sym c.is_on.ensures ∙ c.if-is_on.false)))
