-- A call of a sweep that remembers that is the one of the definition, the claim of its run being known. Assumes nothing.
use Rattle.std.specs.Prelude.{◌≡◌, ℕ, List, ◌++◌, take, drop}
use Rattle.std.proofs.Common.{ap, ◌∙◌}
use Rattle.rows.specs.Rows.{overlay}
use Rattle.air_log.specs.Log.{list_bytes}
use Rattle.memory_rules.specs.Promise.{Remembers}
use Rattle.memory_rules.specs.Run.{recalled}
use Rattle.sweep.proofs.CallLaws.{call_says_law, runs}
use Rattle.sweep.specs.Promise.{Terms}
use Rattle.sweep.specs.Sweep.{call, done}
use Rattle.memory_sweep.specs.Promise.{Recalls}
use Rattle.memory_sweep.specs.Recalled.{recall_of}
use Rattle.card.specs.declared.Card.{Card}
use Rattle.sweep.specs.declared.Start.{Start}
use Rattle.sweep.specs.declared.Swept.{Swept}

pub promised_by : (s₀ : Start) (cards : List Card) (n : ℕ) (log list : List ℕ) (s : Swept) (log₁ list₁ : List ℕ) → call s log₁ list₁ ≡ recall_of s₀ cards n log list
    → (Terms s₀ cards n log list → Remembers (take n cards) (recalled (take n cards))) → (call s log₁ list₁ ≡ recall_of s₀ cards n log list) × Recalls s₀ cards n log list s log₁ list₁
unfolding done
promised_by s₀ cards n log list s log₁ list₁ e claim = (
  e,
  record {
    says = call_says_law recalled s₀ cards n log list s log₁ list₁ e;
    run = is;
    remembers = claim;
    list = λ t. ap (λ c. c.list) (is t) ∙ ap (λ us. overlay list 0 (list_bytes us)) (claim t).found;
    cards = λ t. ap (λ c. c.swept.cards) (is t) ∙ ap (λ cs. cs ++ drop n cards) (claim t).cards;
  },
)
  where
    is : Terms s₀ cards n log list → call s log₁ list₁ ≡ done s₀.tick cards n log list (recalled (take n cards))
    is t = e ∙ runs recalled s₀ cards n log list t
