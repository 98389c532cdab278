-- What the plain sweep's definition says of a row: more cards than the limit are 6, any other row is the field, whole. Assumes nothing.
use Rattle.std.specs.Prelude.{◌≡◌, refl, ℕ, not, cond, ◌||◌, List, length, ltb}
use Rattle.reader.specs.Reader.{is_new}
use Rattle.limits.specs.Limits.{most_cards, log_room, list_room}
use Rattle.sweep_rules.specs.Run.{sweep}
use Rattle.sweep_rules.specs.Terms.{within}
use Rattle.sweep.specs.Sweep.{call, refused, done, call_of, sweep_of}
use Rattle.card.specs.declared.Card.{Card}
use Rattle.sweep.specs.declared.Start.{Start}
use Rattle.refusal.specs.declared.Refusal.TheVariants.{Room, Argument, NotDue}
use Rattle.sweep_row.specs.PadLaws.{take_row}

pub row_is_field : (start : Start) (cards : List Card) (log list : List ℕ)
    → sweep_of start cards (length cards) log list
    ≡ cond (not (is_new start.reader.phase)) (call (refused start.reader cards NotDue) log list)
    (cond (ltb (length log) log_room || ltb (length list) list_room) (call (refused start.reader cards Room) log list)
    (cond (ltb most_cards (length cards) || not (within cards)) (call (refused start.reader cards Argument) log list)
    (done start.tick cards (length cards) log list (sweep cards))))
unfolding call_of
row_is_field start cards log list = rw (take_row (length cards) cards refl)
