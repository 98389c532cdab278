-- The terms are the plain sweep's, and they hold exactly where the call of a sweep that remembers declines nothing (T-14). They can be met: what the
-- contract says within them is said of a field of the full number of cards. Assumes nothing.
use mathlib.Core.Path.{◌≡◌, ap}
use Prim.Native.Nat.{ℕ}
use mathlib.Core.Bool.{false}
use mathlib.Core.List.{List}
use lib.ListN.{take, replicate}
use borrow.Author.Tests.{le-ltb}
use Rattle.limits.specs.Limits.{most_cards, log_room, list_room}
use Rattle.rows.specs.Rows.{All}
use Rattle.reader.specs.Calls.{turn_says}
use Rattle.reader.specs.Reader.{blank}
use Rattle.sweep_rules.specs.Demand.{Typed}
use Rattle.sweep_rules.specs.Run.{sweep}
use Rattle.memory_rules.specs.Promise.{Remembers}
use Rattle.memory_rules.specs.Run.{recalled}
use Rattle.memory_rules.proofs.Remembers.{remembers}
use Rattle.sweep.specs.Promise.{Terms}
use Rattle.sweep.specs.Sweep.{call, done}
use Rattle.sweep.proofs.TermsMet.{terms_passed, wall, full_terms}
use Rattle.memory_sweep.specs.Promise.{recall_says, Recalls}
use Rattle.card.specs.declared.Card.{Card}
use Rattle.reader.specs.declared.Phase.TheVariants.{New}
use Rattle.sweep.specs.declared.Start.{Start}
use Rattle.sweep.specs.declared.Swept.{Swept}

module _ (s₀ : Start) (cards : List Card) (n : ℕ) (log list : List ℕ) where
  pub terms_if : (recall_says s₀ cards n log list).number ≡ 0 → Terms s₀ cards n log list
  terms_if e = terms_passed s₀ cards n log list (turn_says (recalled (take n cards)).last) e

  pub terms_then : All Typed (take n cards) → Terms s₀ cards n log list → (recall_says s₀ cards n log list).number ≡ 0
  terms_then typed t =
      rw (t.new, le-ltb _ log_room t.log_has_room, le-ltb _ list_room t.list_has_room, le-ltb most_cards n t.few, t.field)
      (ap (λ x. (turn_says x).number) (remembers (take n cards) typed t.field).finished)

-- a call over such a field, its first tick t, that gave s, log₁ and list₁
module _ (t : ℕ) (s : Swept) (log₁ list₁ : List ℕ) where
  abbrev field : List Card
  field = take most_cards (wall most_cards)

  pub full_recalled : Recalls (record { reader = blank New false; tick = t }) (wall most_cards) most_cards (replicate log_room 0) (replicate list_room 0) s log₁ list₁
      → (call s log₁ list₁ ≡ done t (wall most_cards) most_cards (replicate log_room 0) (replicate list_room 0) (recalled field)) × Remembers field (recalled field)
      × (list₁ ≡ (done t (wall most_cards) most_cards (replicate log_room 0) (replicate list_room 0) (sweep field)).list)
      × (s.cards ≡ (done t (wall most_cards) most_cards (replicate log_room 0) (replicate list_room 0) (sweep field)).swept.cards)
  full_recalled r = (r.run (full_terms t), r.remembers (full_terms t), r.list (full_terms t), r.cards (full_terms t))
