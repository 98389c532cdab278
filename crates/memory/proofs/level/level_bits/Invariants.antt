-- `memory::level::level_bits` meets its contract. The loop's invariant: the first i of the level's bits are copied. Assumes nothing.
use mathlib.Core.Path.{◌≡◌}
use lib.ListN.{length, take, replicate}
use Rattle.rows.specs.Rows.{overlay}
use Rattle.memory.specs.Memory.{bits}
use Rattle.memory.proofs.level.level_bits.Given as goal

abbrev pub invariant-loop-i : goal.invariant-loop-i
invariant-loop-i l = (length l.e ≡ 40) × (l.e ≡ overlay (replicate 40 0) 0 (take l.i (bits l.x-items)))
