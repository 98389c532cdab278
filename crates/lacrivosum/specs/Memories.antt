-- The reader that remembers for C: state in bytes that the caller lends, by `memory_left` and `memory_after` of crate kept_memory.
use Rattle.std.specs.Prelude.{ℕ, cond, List, length, ltb}
use Rattle.refusal.specs.declared.Refusal.TheVariants.{Room}
use Rattle.reader.specs.Calls.{row_after}
use Rattle.memory.specs.declared.Memory.{Memory}
use Rattle.kept.specs.Kept.{refused}
use Rattle.kept_reader.specs.KeptReader.{selection_number}
use Rattle.kept_memory.specs.KeptMemory.{memory_size, memory_left}
use Rattle.lacrivosum.specs.Library.{Done, done}

-- a call that gives m by value, on the state s and the row o. A state that is too short: 1, all unchanged
unfoldable pub memory_done : List ℕ → List ℕ → Memory → Done
memory_done s o m =
    cond (ltb (length s) memory_size) (done (refused Room) s o)
    (done (selection_number m.turn.answer) (memory_left s m) (row_after m.turn o))
