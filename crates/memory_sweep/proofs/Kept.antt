-- The claim of T-14 of the call that runs is the claim of the rules. Assumes nothing.
use mathlib.Core.Path.{◌≡◌, refl}
use Prim.Native.Nat.{ℕ, ◌≤◌}
use mathlib.Core.Bool.{true}
use mathlib.Core.List.{List}
use lib.ListN.{take}
use native.Mathlib.Omega.{arith}
use Rattle.limits.specs.Limits.{log_room}
use Rattle.rows.specs.Rows.{All}
use Rattle.air_log.specs.Log.{log_size}
use Rattle.air_log.proofs.RecordLaws.{log_size_law}
use Rattle.sweep_rules.specs.Demand.{Typed}
use Rattle.memory_rules.specs.Promise.{Remembers}
use Rattle.memory_rules.specs.Run.{run, recalled}
use Rattle.memory_rules.proofs.Remembers.{remembers}
use Rattle.sweep.specs.Promise.{Terms}
use Rattle.sweep.specs.Shared.{FitsRoom}
use Rattle.sweep.specs.Sweep.{call}
use Rattle.sweep_steps.specs.Loop.{swept_if}
use Rattle.memory_sweep.proofs.CallLaws.{promised_by}
use Rattle.memory_sweep.specs.Promise.{Recalls}
use Rattle.memory_sweep.specs.Recalled.{recall_of}
use Rattle.card.specs.declared.Card.{Card}
use Rattle.sweep.specs.declared.Start.{Start}
use Rattle.sweep.specs.declared.Swept.{Swept}

-- the loop, where it remembers, runs the rules of crate memory_rules
pub swept_recalled : (cs : List Card) → swept_if true cs ≡ recalled cs
unfolding swept_if recalled run
swept_recalled cs = refl

-- log and list have room
pub fits_room : (cs : List Card) → FitsRoom recalled cs
fits_room cs typed field =
    let r : Remembers cs (recalled cs) = remembers cs typed field in
    let l : log_size (recalled cs).exchanges ≤ log_room = omega (arith, r.log_fits 0, log_size_law 0 (recalled cs).exchanges) in
    (l, r.list_fits)

-- .. for what the loop runs
pub loop_fits : (cs : List Card) → FitsRoom (swept_if true) cs
loop_fits cs typed field = rw (swept_recalled cs) (fits_room cs typed field)

-- a call that is the one of the definition
pub promised : (s₀ : Start) (cards : List Card) (n : ℕ) (log list : List ℕ) (s : Swept) (log₁ list₁ : List ℕ) → call s log₁ list₁ ≡ recall_of s₀ cards n log list
    → (Terms s₀ cards n log list → All Typed (take n cards)) → (call s log₁ list₁ ≡ recall_of s₀ cards n log list) × Recalls s₀ cards n log list s log₁ list₁
promised s₀ cards n log list s log₁ list₁ e typed = promised_by s₀ cards n log list s log₁ list₁ e (λ t. remembers (take n cards) (typed t) t.field)
