-- What the call that wakes one known card promises. T-03's claim is stated on the rules, in crate wake_rules.
use Rattle.std.specs.Prelude.{◌≡◌, ℕ, ◌≤◌, true, not, ◌||◌, List, take, ltb}
use Rattle.limits.specs.Limits.{most_cards}
use Rattle.refusal.specs.Refusal.{Said, decline_if}
use Rattle.uid.specs.Calls.{valid_bytes, uid_of}
use Rattle.reader.specs.Reader.{is_new}
use Rattle.reader.specs.Calls.{answer_says, turn_says}
use Rattle.sweep_rules.specs.Terms.{within}
use Rattle.wake_rules.specs.Claim.{Wakes}
use Rattle.wake_rules.specs.Wake.{wake}
use Rattle.card.specs.declared.Card.{Card}
use Rattle.reader.specs.declared.Reader.{Reader}
use Rattle.wake.specs.Wake.{done}
use Rattle.wake.specs.declared.Woken.{Woken}

-- the terms: a new reader, the bytes of a valid UID, and a field that a sweep takes: at most the limit of cards, each with a valid UID, an index up to 8
-- and in Idle or Halt, no UID there twice
pub record Terms (r : Reader) (l : List ℕ) (cards : List Card) (n : ℕ) : Type 0 where
  pub new : is_new r.phase ≡ true
  pub uid : valid_bytes l ≡ true
  pub few : n ≤ most_cards
  pub field : within (take n cards) ≡ true

-- ---- the answer, in the table's numbers

abbrev pub woken_says : Woken → Said
woken_says s = answer_says s.answer s.reader

-- "A call tests 11, .. 6": else as the run of the rules ends
abbrev pub wake_says : Reader → List ℕ → List Card → ℕ → Said
wake_says r l cards n =
    decline_if (not (is_new r.phase)) 11
    (decline_if (not (valid_bytes l) || ltb most_cards n || not (within (take n cards))) 6
    (turn_says (wake (uid_of l) (take n cards)).last))

-- ---- what the call promises: s is what it gives
pub record Wakens (r : Reader) (l : List ℕ) (cs : List Card) (n : ℕ) (s : Woken) : Type 0 where
  pub says : woken_says s ≡ wake_says r l cs n
  -- within the terms it is the run of the rules over the field
  pub run : Terms r l cs n → s ≡ done cs n (wake (uid_of l) (take n cs))
  -- .. and of that run T-03's claim holds
  pub claim : Terms r l cs n → Wakes (take n cs) (uid_of l) (wake (uid_of l) (take n cs))
