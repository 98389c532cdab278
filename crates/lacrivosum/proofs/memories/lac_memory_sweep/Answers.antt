-- `lacrivosum::memories::lac_memory_sweep` meets its contract, by those of `selection_of`, `path_of`, `start_sweep` and `settle`. Assumes nothing.
use lib.ListN.{length}
use native.Mathlib.Omega.{arith}
use Rattle.reader.specs.declared.Reader.{Reader}
use Rattle.memory.specs.declared.Memory.{Memory}
use Rattle.memory.specs.declared.Path.{Path}
use Rattle.kept_memory.specs.KeptMemory.{start_on}
use Rattle.lacrivosum.specs.MemoryCallLaws.{memory_short, memory_called}
use Rattle.lacrivosum.proofs.memories.lac_memory_sweep.Goals as goal

pub returns-then-state-lt-MEMORY_SIZE : goal.returns-then-state-lt-MEMORY_SIZE
returns-then-state-lt-MEMORY_SIZE c = let a = c.args in record { out_value = memory_short a.state.now a.out.now _ _ c.if-state-lt-MEMORY_SIZE.true c.refused.ensures; state_after = λ h. absurd (omega arith) }

pub returns : goal.returns
returns c = let a = c.args in let both = let f : Reader → Path → Memory = λ r p. start_on r p (length a.out.now) in let m = c.start_sweep-m.ensures in memory_called a.state.now a.out.now _ _ f _ _ _ _ c.if-state-lt-MEMORY_SIZE.false c.selection_of-r.ensures c.path_of-p.ensures m.value m.out_after (c.settle.ensures.value, (c.settle.ensures.state_after, c.settle.ensures.state_after_2)) in record { out_value = both.0; state_after = both.1 }
