-- The call of the pass over a row, where it remembers, is what the contract says. Assumes nothing.
use mathlib.Core.Path.{◌∙◌}
use Prim.Native.Nat.{ℕ}
use mathlib.Core.Bool.{true}
use mathlib.Core.List.{List}
use lib.ListN.{take}
use Rattle.memory_rules.specs.Run.{recalled}
use Rattle.sweep_steps.specs.Loop.{swept_if}
use Rattle.sweep.proofs.CallLaws.{same_run}
use Rattle.memory_sweep.proofs.Kept as kept
use Rattle.sweep_row.specs.Under.{Called}
use Rattle.card.specs.declared.Card.{Card}
use Rattle.sweep.specs.declared.Start.{Start}
use Rattle.sweep.specs.declared.Swept.{Swept}
use Rattle.memory_row.specs.Row.{Promises}

pub promised : (start : Start) (cards : List Card) (n : ℕ) (log list : List ℕ) (s : Swept) (log₁ list₁ : List ℕ) → Called true start cards n log list s log₁ list₁
    → Promises start cards n log list s log₁ list₁
promised start cards n log list s log₁ list₁ k =
    kept.promised start cards n log list s log₁ list₁ (k.0 ∙ same_run (swept_if true) recalled start cards n log list (kept.swept_recalled (take n cards))) k.1
