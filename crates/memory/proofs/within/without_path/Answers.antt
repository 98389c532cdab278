-- `memory::within::without_path` meets its contract. Assumes nothing.
use mathlib.Core.Path.{ap, ◌∙◌}
use mathlib.Core.List.{[]}
use Rattle.memory.specs.Memory.{recall}
use Rattle.memory.specs.Stored.{memory_of}
use Rattle.memory.proofs.StoredLaws.{made_memory}
use Rattle.memory.proofs.within.without_path.Goals as goal

pub returns : goal.returns
returns c = made_memory c.hear_rules.result c.empty.result [] c.empty.ensures ∙ ap (λ u. memory_of (recall u [])) c.hear_rules.ensures
