-- T-03 for C: one known card of a row of n cards' states is woken and selected. The reader's state and the cards are decoded, the call of crate
-- wake is made by value, and what it leaves is encoded, by `turn_left` of crate kept_reader and `row_left` of crate kept_wake.
use Rattle.std.specs.Prelude.{ℕ, ◌/◌, ◌≤◌, ◌≡◌, true, cond, List, length}
use Rattle.limits.specs.Limits.{most_cards}
use Rattle.refusal.specs.declared.Refusal.{Refusal}
use Rattle.refusal.specs.declared.Refusal.TheVariants.{Room}
use Rattle.uid.specs.Calls.{valid_bytes}
use Rattle.reader.specs.Reader.{is_new}
use Rattle.sweep_rules.specs.Run.{Out}
use Rattle.sweep_rules.specs.Terms.{within}
use Rattle.wake.specs.Wake as by_value
use Rattle.wake.specs.declared.Woken.{Woken}
use Rattle.kept.specs.Kept.{state_size, refused}
use Rattle.kept_reader.specs.KeptReader.{selection_of, link_of, reader_of, selection_refuses, selection_number, turn_left, kept_in, kept_of}
use Rattle.kept_field.specs.KeptField.{cards_in, field_in}
use Rattle.kept_wake.specs.KeptWake.{turn_of, woken_turn, woken_number, row_left}
use Rattle.lacrivosum.specs.Field.{no_field}

-- what comes of the call: its number, and all that was lent
pub record WakeDone : Type 0 where
  pub number : ℕ
  pub state : List ℕ
  pub cards : List ℕ

abbrev pub wake_done : ℕ → List ℕ → List ℕ → WakeDone
wake_done x state cards = record { number = x; state = state; cards = cards }

-- the call by value, on what the bytes say
abbrev pub wake_call : List ℕ → List ℕ → List ℕ → ℕ → Woken
wake_call state uid cards n = by_value.wake_of (selection_of state) uid (field_in n cards) n

-- .. that gives s. Too short a state or row: 1, all unchanged
unfoldable pub wake_left : List ℕ → List ℕ → ℕ → Woken → WakeDone
wake_left state cards n s =
    cond (no_field state cards n) (wake_done (refused Room) state cards)
    (wake_done (woken_number s) (turn_left state (woken_turn (reader_of state) s)) (row_left n cards s))

-- where the call by value is declined before a frame is sent, 11 or 6, all that was lent is unchanged
abbrev pub WakeUnchanged : WakeDone → List ℕ → ℕ → WakeDone → Type 0
WakeUnchanged before uid n after =
    (e : Refusal) → wake_call before.state uid before.cards n ≡ by_value.refused (selection_of before.state) (field_in n before.cards) e
    → after ≡ wake_done after.number before.state before.cards

-- the terms, of bytes: room for all, a new reader, a valid UID, and a field that a sweep takes
pub record WakeTerms (state uid cards : List ℕ) (n : ℕ) : Type 0 where
  pub state_room : state_size ≤ length state
  pub cards_room : n ≤ length cards / state_size
  pub new : is_new (selection_of state).phase ≡ true
  pub uid_valid : valid_bytes uid ≡ true
  pub few : n ≤ most_cards
  pub field : within (cards_in n cards) ≡ true

-- .. within them, what the bytes say after the run o of the rules over the cards that they said before: the frames that were sent, or minus a
-- refusal's number; the reader, with the link that it had, the event and what came with it; the cards
pub record WakeSays (o : Out) (n : ℕ) (before after : WakeDone) : Type 0 where
  pub number : after.number ≡ cond (selection_refuses o.last.answer) (selection_number o.last.answer) (length o.exchanges)
  pub state : kept_in after.state ≡ kept_of (turn_of o.last.reader (link_of before.state) o.last.answer)
  pub cards : cards_in n after.cards ≡ o.cards
