-- `memory::within::hear_rules` meets its contract. Assumes nothing.
use mathlib.Core.Path.{ap, ◌∙◌}
use Rattle.memory.specs.Memory.{hear}
use Rattle.memory.specs.Stored.{path_of, memory_of}
use Rattle.memory.proofs.StoredLaws.{path_at}
use Rattle.memory.proofs.within.hear_rules.Goals as goal

pub returns : goal.returns
returns c = let q = c.tidy in
    let a = c.args in
    c.hear_kept.ensures ∙ ap (λ w. memory_of (hear a.r w a.row.now)) (path_at q.result.path (path_of a.p) q.ensures)
