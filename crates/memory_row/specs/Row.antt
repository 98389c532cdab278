-- Document 02, T-14 over a lent row. What a sweep that remembers is stands in crates memory_rules and memory_sweep, the pass over a row in crate sweep_row.
use Rattle.std.specs.Prelude.{ℕ, List, ◌≡◌}
use Rattle.sweep.specs.Sweep.{call}
use Rattle.memory_sweep.specs.Recalled.{recall_of}
use Rattle.memory_sweep.specs.Promise.{Recalls}
use Rattle.card.specs.declared.Card.{Card}
use Rattle.sweep.specs.declared.Start.{Start}
use Rattle.sweep.specs.declared.Swept.{Swept}

-- what crate memory_sweep says of a sweep over the first n cards, with a log and a list, that gave s, log₁ and list₁
abbrev pub Promises : Start → List Card → ℕ → List ℕ → List ℕ → Swept → List ℕ → List ℕ → Type 0
Promises start cards n log list s log₁ list₁ = (call s log₁ list₁ ≡ recall_of start cards n log list) × Recalls start cards n log list s log₁ list₁
