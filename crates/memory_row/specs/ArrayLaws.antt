-- A row that is the first n cards of an array: what the sweep's contract says of the row, it says of the array. Assumes nothing.
use Rattle.std.specs.Prelude.{◌≡◌, ℕ, List, ◌++◌, length, take, drop}
use Rattle.memory_rules.specs.Promise.{Remembers}
use Rattle.memory_rules.specs.Run.{recalled}
use Rattle.memory_sweep.proofs.CallLaws.{promised_by}
use Rattle.sweep_row.specs.ArrayLaws.{array_call, array_claim}
use Rattle.sweep_row.specs.Row.{swept_row}
use Rattle.card.specs.declared.Card.{Card}
use Rattle.sweep.specs.declared.Start.{Start}
use Rattle.sweep_row.specs.declared.RowSwept.{RowSwept}
use Rattle.memory_row.specs.Row.{Promises}

module _ (start : Start) (cards : List Card) (n : ℕ) (log list : List ℕ) (long : length (take n cards) ≡ n) where
  abbrev front : List Card
  front = take n cards

  pub array_promised : (s : RowSwept) (after : List Card) (log₁ list₁ : List ℕ) → Promises start front (length front) log list (swept_row s after) log₁ list₁
      → Promises start cards n log list (swept_row s (after ++ drop n cards)) log₁ list₁
  array_promised s after log₁ list₁ p =
      promised_by start cards n log list (swept_row s (after ++ drop n cards)) log₁ list₁ (array_call start cards n log list long recalled s after log₁ list₁ p.0)
      (array_claim start cards n log list long (λ k. Remembers k (recalled k)) p.1.remembers)
