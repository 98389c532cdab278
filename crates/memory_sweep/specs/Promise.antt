-- What the call of a sweep that remembers promises (document 02, T-14). The terms are demand 3's, as the plain sweep's call has them; the claim is
-- stated on the rules, in crate memory_rules.
use Rattle.std.specs.Prelude.{◌≡◌, ℕ, List, take}
use Rattle.refusal.specs.Refusal.{Said}
use Rattle.sweep_rules.specs.Run.{sweep}
use Rattle.memory_rules.specs.Promise.{Remembers}
use Rattle.memory_rules.specs.Run.{recalled}
use Rattle.sweep.specs.Promise.{Terms, swept_says, says_of}
use Rattle.sweep.specs.Sweep.{call, done}
use Rattle.card.specs.declared.Card.{Card}
use Rattle.sweep.specs.declared.Start.{Start}
use Rattle.sweep.specs.declared.Swept.{Swept}

-- the call's numbers, as of any sweep
abbrev pub recall_says : Start → List Card → ℕ → List ℕ → List ℕ → Said
recall_says start cards n log list = says_of recalled start cards n log list

-- s is what the call gives, log₁ and list₁ the lent log and list afterwards
pub record Recalls (start : Start) (cs : List Card) (n : ℕ) (log₀ list₀ : List ℕ) (s : Swept) (log₁ list₁ : List ℕ) : Type 0 where
  pub says : swept_says s ≡ recall_says start cs n log₀ list₀
  -- within the terms it is the run of the rules over the field: its reader and last answer, its cards in their places (those that are not in
  -- the field unchanged), its counts, its log, from the starting tick on, and its list from the fronts of those lent
  pub run : Terms start cs n log₀ list₀ → call s log₁ list₁ ≡ done start.tick cs n log₀ list₀ (recalled (take n cs))
  -- .. and of that run the claim holds
  pub remembers : Terms start cs n log₀ list₀ → Remembers (take n cs) (recalled (take n cs))
  -- so "the same list", byte for byte, and the same cards, whole structs, as the plain sweep from the same start leaves
  pub list : Terms start cs n log₀ list₀ → list₁ ≡ (done start.tick cs n log₀ list₀ (sweep (take n cs))).list
  pub cards : Terms start cs n log₀ list₀ → s.cards ≡ (done start.tick cs n log₀ list₀ (sweep (take n cs))).swept.cards
