use mathlib.Core.Path.{ap, ◌∙◌}
use mathlib.Core.List.{[]}
use Rattle.reader.specs.Reader.{sends}
use Rattle.memory.specs.Memory.{recall}
use Rattle.memory.specs.Stored.{memory_of}
use Rattle.memory.proofs.StoredLaws.{made_memory}
use Rattle.memory.proofs.within.fresh.Goals as goal

pub returns : goal.returns
returns c = let e = c.empty in
    let t = c.sends in
    made_memory t.result e.result [] e.ensures ∙ ap (λ u. memory_of (recall u [])) (t.ensures ∙ ap sends c.blank.ensures)
