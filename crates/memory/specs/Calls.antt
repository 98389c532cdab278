-- Document 02, T-14: the calls of the reader that remembers, with lent room for its next frame. 11 is tested first, then 1, as the plain reader's
-- calls test them (reader/specs/Calls.antt), and both leave all unchanged.
use Rattle.std.specs.Prelude.{ℕ, true, cond, not, List, [], ltb}
use Rattle.limits.specs.Limits.{frame_room}
use Rattle.reader.specs.Calls.{awaits, begin_call, call_says}
use Rattle.reader.specs.Reader.{turn}
use Rattle.memory.specs.Memory.{recall, hear}
use Rattle.memory.specs.Stored.{path_of, memory_of}
use Rattle.refusal.specs.Refusal.{Said}
use Rattle.refusal.specs.declared.Refusal.{Refusal}
use Rattle.refusal.specs.declared.Refusal.TheVariants.{Room, NotDue}
use Rattle.memory.specs.declared.Path.{Path}
use Rattle.memory.specs.declared.Memory.{Memory}
use Rattle.reader.specs.declared.Reader.{Reader}
use Rattle.reader.specs.declared.Answer.TheVariants.{Declines}

unfoldable pub refused : Reader → Path → Refusal → Memory
refused r p e = record { turn = turn r (Declines e); path = p }

-- the sweep begins as the plain one, and nothing is remembered
unfoldable pub start_call : Reader → ℕ → Memory
start_call r room = memory_of (recall (begin_call true r room) [])

unfoldable pub hear_call : Reader → Path → List ℕ → ℕ → Memory
hear_call r p h room =
    cond (not (awaits r.phase)) (refused r p NotDue)
    (cond (ltb room frame_room) (refused r p Room) (memory_of (hear r (path_of p) h)))

-- in the table's numbers
abbrev pub hear_says : Reader → Path → List ℕ → ℕ → Said
hear_says r p h room = call_says (awaits r.phase) (hear r (path_of p) h).turn room
