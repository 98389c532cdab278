-- What the call that both sweeps share asks for and gives (crate sweep, module within): the plain one, and the one that remembers (T-14).
use Rattle.std.specs.Prelude.{◌≡◌, ◌≤◌, true, List, length}
use Rattle.rows.specs.Rows.{All}
use Rattle.limits.specs.Limits.{log_room, list_room}
use Rattle.air_log.specs.Log.{log_size, list_bytes}
use Rattle.sweep_rules.specs.Demand.{Typed}
use Rattle.sweep_rules.specs.Run.{Out}
use Rattle.sweep_rules.specs.Terms.{within}
use Rattle.card.specs.declared.Card.{Card}

-- over a field that a sweep takes, what the run W writes fits the room that the call asks for
abbrev pub FitsRoom : (List Card → Out) → List Card → Type 0
FitsRoom W cs = All Typed cs → within cs ≡ true → (log_size (W cs).exchanges ≤ log_room) × (length (list_bytes (W cs).found) ≤ list_room)
