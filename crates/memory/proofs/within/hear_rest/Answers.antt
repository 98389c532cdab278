-- `memory::within::hear_rest` meets its contract. Assumes nothing.
use Prim.Native.Nat.{◌+◌, ◌*◌}
use mathlib.Core.Path.{ap, ◌∙◌}
use mathlib.Core.List.{◌++◌}
use lib.ListN.{take}
use Rattle.uid.specs.Uid.{place}
use Rattle.memory.specs.Memory.{learnt, stays}
use Rattle.memory.specs.Stored.{path_of, memory_of}
use Rattle.memory.proofs.StoredLaws.{path_at}
use Rattle.memory.proofs.within.hear_rest.Goals as goal

pub returns : goal.returns
returns c = let q = c.learns in
    let x = c.read_rest-x in
    let a = c.args in
    c.stays.ensures
    ∙ ap (λ w. memory_of (stays a.t w)) (path_at q.result.path _ q.ensures ∙ ap (λ y. take (40 * place a.l + a.r.known) (path_of a.p.path) ++ learnt a.r y) x.ensures.value)
