-- `memory::start_sweep` meets its contract. Assumes nothing.
use mathlib.Core.Path.{ap, ◌∙◌}
use mathlib.Core.List.{[]}
use Rattle.memory.specs.Calls.{start_call}
use Rattle.memory.specs.Memory.{recall}
use Rattle.memory.specs.Stored.{memory_of}
use Rattle.memory.proofs.StoredLaws.{made_memory}
use Rattle.memory.proofs.start_sweep.Goals as goal

pub returns : goal.returns
unfolding start_call
returns c = let e = c.empty in
    let t = c.start_sweep in record { value = made_memory t.result e.result [] e.ensures ∙ ap (λ u. memory_of (recall u [])) t.ensures.value; out_after = t.ensures.out_after; turn_value = t.ensures.result_value }
