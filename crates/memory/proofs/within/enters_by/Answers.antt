-- `memory::within::enters_by` meets its contract. Assumes nothing.
use mathlib.Core.Path.{sym, ◌∙◌}
use mathlib.Core.Bool.{true, false}
use Rattle.memory.specs.Stored.{path_of}
use Rattle.memory.proofs.StoredLaws.{enters_on}
use Rattle.memory.proofs.within.enters_by.Goals as goal

pub returns-then-is_sending : goal.returns-then-is_sending
returns-then-is_sending c = let a = c.args in
    c.enters.ensures ∙ sym (enters_on a.a a.l a.t (path_of a.p.path) true (sym c.is_sending.ensures ∙ c.if-is_sending.true))

pub returns-else-is_sending : goal.returns-else-is_sending
returns-else-is_sending c = let a = c.args in
    sym (enters_on a.a a.l a.t (path_of a.p.path) false (sym c.is_sending.ensures ∙ c.if-is_sending.false))
