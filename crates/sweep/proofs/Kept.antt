-- Demand 3 of the call that runs is demand 3 of the rules. Assumes nothing.
use mathlib.Core.Path.{◌≡◌}
use Prim.Native.Nat.{ℕ, ◌≤◌}
use mathlib.Core.Bool.{false}
use mathlib.Core.List.{List}
use lib.ListN.{take}
use native.Mathlib.Omega.{arith}
use Rattle.limits.specs.Limits.{log_room}
use Rattle.rows.specs.Rows.{All}
use Rattle.air_log.specs.Log.{log_size}
use Rattle.air_log.proofs.RecordLaws.{log_size_law}
use Rattle.sweep_rules.specs.Demand.{Typed, Demand3}
use Rattle.sweep_rules.specs.Run.{sweep}
use Rattle.sweep_rules.proofs.Demand3.{demand3}
use Rattle.sweep_steps.specs.Loop.{swept_if}
use Rattle.sweep_steps.specs.LoopLaws.{swept_plain}
use Rattle.card.specs.declared.Card.{Card}
use Rattle.sweep.proofs.CallLaws.{Promised, promised_by}
use Rattle.sweep.specs.Promise.{Terms}
use Rattle.sweep.specs.Shared.{FitsRoom}
use Rattle.sweep.specs.Sweep.{call, sweep_of}
use Rattle.sweep.specs.declared.Start.{Start}
use Rattle.sweep.specs.declared.Swept as code

-- log and list have room
pub fits_room : (cs : List Card) → FitsRoom sweep cs
fits_room cs typed field =
    let d : Demand3 cs (sweep cs) = demand3 cs typed field in
    let l : log_size (sweep cs).exchanges ≤ log_room = omega (arith, d.log_fits 0, log_size_law 0 (sweep cs).exchanges) in
    (l, d.list_fits)

-- .. for what the loop runs
pub loop_fits : (cs : List Card) → FitsRoom (swept_if false) cs
loop_fits cs typed field = rw (swept_plain cs) (fits_room cs typed field)

-- a call that is the one of the definition
pub promised : (s₀ : Start) (cards : List Card) (n : ℕ) (log list : List ℕ) (s : code.Swept) (log₁ list₁ : List ℕ) → call s log₁ list₁ ≡ sweep_of s₀ cards n log list
    → (Terms s₀ cards n log list → All Typed (take n cards)) → Promised s₀ cards n log list s log₁ list₁
promised s₀ cards n log list s log₁ list₁ e typed = promised_by s₀ cards n log list s log₁ list₁ e (λ t. demand3 (take n cards) (typed t) t.field)
