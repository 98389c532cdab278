-- What the call of a sweep promises (document 01, "How tight the contracts are"). Demand 3 is stated on the rules, in crate sweep_rules.
use Rattle.std.specs.Prelude.{◌≡◌, ℕ, ◌≤◌, true, not, ◌||◌, List, length, take, ltb}
use Rattle.limits.specs.Limits.{most_cards, log_room, list_room}
use Rattle.refusal.specs.Refusal.{Said, decline_if}
use Rattle.reader.specs.Reader.{is_new}
use Rattle.reader.specs.Calls.{answer_says, turn_says}
use Rattle.sweep_rules.specs.Demand.{Demand3}
use Rattle.sweep_rules.specs.Run.{Out, sweep}
use Rattle.sweep_rules.specs.Terms.{within}
use Rattle.card.specs.declared.Card.{Card}
use Rattle.sweep.specs.Sweep.{call, done}
use Rattle.sweep.specs.declared.Start.{Start}
use Rattle.sweep.specs.declared.Swept.{Swept}

-- the terms: a new reader, the room that a sweep asks for, and a field of at most the limit of cards, each with a valid UID, an index up to 8 and in
-- Idle or Halt, no UID there twice
pub record Terms (start : Start) (cards : List Card) (n : ℕ) (log list : List ℕ) : Type 0 where
  pub new : is_new start.reader.phase ≡ true
  pub log_has_room : log_room ≤ length log
  pub list_has_room : list_room ≤ length list
  pub few : n ≤ most_cards
  pub field : within (take n cards) ≡ true

-- ---- the answer, in the table's numbers

abbrev pub swept_says : Swept → Said
swept_says s = answer_says s.answer s.reader

-- "A call tests 11, 1, 6": else as the run W of the rules ends
abbrev pub says_of : (List Card → Out) → Start → List Card → ℕ → List ℕ → List ℕ → Said
says_of W start cards n log list =
    decline_if (not (is_new start.reader.phase)) 11
    (decline_if (ltb (length log) log_room || ltb (length list) list_room) 1
    (decline_if (ltb most_cards n || not (within (take n cards))) 6
    (turn_says (W (take n cards)).last)))

abbrev pub sweep_says : Start → List Card → ℕ → List ℕ → List ℕ → Said
sweep_says start cards n log list = says_of sweep start cards n log list

-- ---- what the call promises: s is what it gives, log₁ and list₁ the lent log and list afterwards
pub record Sweeps (start : Start) (cs : List Card) (n : ℕ) (log₀ list₀ : List ℕ) (s : Swept) (log₁ list₁ : List ℕ) : Type 0 where
  pub says : swept_says s ≡ sweep_says start cs n log₀ list₀
  -- within the terms it is the run of the rules over the field: its reader and last answer, its cards in their places (those that are not in
  -- the field unchanged), its counts, its log, from the starting tick on, and its list from the fronts of those lent
  pub run : Terms start cs n log₀ list₀ → call s log₁ list₁ ≡ done start.tick cs n log₀ list₀ (sweep (take n cs))
  -- .. and of that run demand 3 holds
  pub demand3 : Terms start cs n log₀ list₀ → Demand3 (take n cs) (sweep (take n cs))
