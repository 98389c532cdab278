-- Both sweeps for C, over a row of n cards' states: the reader's state and the cards are decoded, the sweep is made by value, and what it leaves
-- is encoded, by `state_left` and `row_left` of crate kept_field.
use Rattle.std.specs.Prelude.{ℕ, ◌/◌, ◌≤◌, ◌≡◌, Bool, true, cond, ◌||◌, List, length, ltb}
use Rattle.limits.specs.Limits.{most_cards, log_room, list_room}
use Rattle.refusal.specs.declared.Refusal.TheVariants.{Room}
use Rattle.rows.specs.Rows.{overlay}
use Rattle.reader.specs.Reader.{is_new}
use Rattle.air_log.specs.Log.{log_bytes, list_bytes}
use Rattle.sweep_rules.specs.Run.{Out}
use Rattle.sweep_rules.specs.Terms.{within}
use Rattle.sweep.specs.Sweep.{Call}
use Rattle.kept.specs.Kept.{state_size, refused}
use Rattle.kept_reader.specs.KeptReader.{selection_of, link_of, selection_refuses}
use Rattle.kept_field.specs.KeptField.{cards_in, swept_in, swept_kept, swept_number, state_left, row_left}

-- what comes of a sweep: its number, and all that was lent
pub record FieldDone : Type 0 where
  pub number : ℕ
  pub state : List ℕ
  pub cards : List ℕ
  pub log : List ℕ
  pub list : List ℕ

abbrev pub field_done : ℕ → List ℕ → List ℕ → List ℕ → List ℕ → FieldDone
field_done x state cards log list = record { number = x; state = state; cards = cards; log = log; list = list }

-- the reader's state is too short, or the row is for n cards
abbrev pub no_field : List ℕ → List ℕ → ℕ → Bool
no_field state cards n = ltb (length state) state_size || ltb (length cards / state_size) n

-- A sweep over n cards that gives c by value. Too short a state or row: 1, all unchanged. Log and list are what the call by value leaves; by its
-- refusal it leaves them unchanged (`Unchanged`), and then the state and the cards are not written either
unfoldable pub sweep_done : List ℕ → List ℕ → ℕ → List ℕ → List ℕ → Call → FieldDone
sweep_done state cards n log list c =
    cond (no_field state cards n) (field_done (refused Room) state cards log list)
    (field_done (swept_number c.swept) (state_left state c.swept) (row_left n cards c.swept) c.log c.list)

-- where the call c by value is refused, all that was lent is unchanged
abbrev pub Unchanged : FieldDone → Call → FieldDone → Type 0
Unchanged before c after =
    selection_refuses c.swept.answer ≡ true → after ≡ field_done after.number before.state before.cards before.log before.list

-- demand 3's terms, of bytes: room for all, a new reader, and a field of at most the limit of cards, each with a valid UID, an index up to 8 and in
-- Idle or Halt, no UID there twice
pub record FieldTerms (state cards : List ℕ) (n : ℕ) (log list : List ℕ) : Type 0 where
  pub state_room : state_size ≤ length state
  pub cards_room : n ≤ length cards / state_size
  pub new : is_new (selection_of state).phase ≡ true
  pub log_has_room : log_room ≤ length log
  pub list_has_room : list_room ≤ length list
  pub few : n ≤ most_cards
  pub field : within (cards_in n cards) ≡ true

-- .. within them, what the bytes say after the run o of the rules over the cards that they said before: the number of UIDs; the reader, with the
-- link that it had, the event, the bytes of log and the frames; the cards; the log, its first tick t, and the list, from their fronts on
pub record FieldSays (o : Out) (t : ℕ) (n : ℕ) (before after : FieldDone) : Type 0 where
  pub number : after.number ≡ length o.found
  pub state : swept_in after.state ≡ swept_kept o.last.reader (link_of before.state) (length (log_bytes t o.exchanges)) (length o.exchanges)
  pub cards : cards_in n after.cards ≡ o.cards
  pub log : after.log ≡ overlay before.log 0 (log_bytes t o.exchanges)
  pub list : after.list ≡ overlay before.list 0 (list_bytes o.found)
