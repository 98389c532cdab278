-- The run over a row is the one of its cards as values, so its call is the call of the definition, plain or remembering. Assumes nothing.
use mathlib.Core.Path.{◌≡◌, refl, sym, ap, subst, ◌∙◌}
use Prim.Native.Nat.{ℕ, ◌≤◌}
use mathlib.Core.Bool.{Bool, true, false}
use mathlib.Core.List.{List, append-nil}
use lib.ListN.{length, take}
use native.Mathlib.Omega.{arith}
use Rattle.limits.specs.Limits.{log_room}
use Rattle.rows.specs.Rows.{All, overlay}
use Rattle.air_log.specs.Log.{log_bytes, log_size, list_bytes}
use Rattle.air_log.proofs.RecordLaws.{log_size_law}
use Rattle.sweep_rules.specs.Demand.{Typed}
use Rattle.sweep_rules.specs.Run.{sweep}
use Rattle.sweep_rules.specs.Terms.{within}
use Rattle.memory_rules.specs.Promise.{Remembers}
use Rattle.memory_rules.specs.Run.{run, recalled}
use Rattle.memory_rules.proofs.Remembers.{remembers}
use Rattle.sweep_steps.specs.Loop.{swept_if}
use Rattle.sweep_steps.specs.LoopLaws.{swept_plain}
use Rattle.sweep.proofs.CallLaws.{Promised, same_run, runs}
use Rattle.sweep.specs.Promise.{Terms}
use Rattle.sweep.specs.Shared.{FitsRoom}
use Rattle.sweep.specs.Sweep.{call, done}
use Rattle.sweep.proofs.Kept as plain
use Rattle.card.specs.declared.Card.{Card}
use Rattle.sweep.specs.declared.Start.{Start}
use Rattle.sweep.specs.declared.Swept.{Swept}
use Rattle.sweep_row.specs.declared.RowSwept.{RowSwept}
use Rattle.sweep_row.specs.PadLaws.{take_row, drop_row}
use Rattle.sweep_row.specs.Row.{swept_row, end_row}
use Rattle.sweep_row.specs.Under.{Begun, Called}

-- log and list have room: by the claim of T-14 where it remembers, by demand 3 where it does not
fits : (b : Bool) (cs : List Card) → FitsRoom (swept_if b) cs
unfolding swept_if recalled run
fits true cs typed field =
    let r : Remembers cs (recalled cs) = remembers cs typed field in
    let l : log_size (recalled cs).exchanges ≤ log_room = omega (arith, r.log_fits 0, log_size_law 0 (recalled cs).exchanges) in
    (l, r.list_fits)
fits false cs typed field = rw (swept_plain cs) (plain.fits_room cs typed field)

-- the plain sweep's call is what its contract says
pub promised : (start : Start) (cards : List Card) (log list : List ℕ) (s : Swept) (log₁ list₁ : List ℕ) → Called false start cards (length cards) log list s log₁ list₁
    → Promised start cards (length cards) log list s log₁ list₁
promised start cards log list s log₁ list₁ k =
    plain.promised start cards (length cards) log list s log₁ list₁
    (k.0 ∙ same_run (swept_if false) sweep start cards (length cards) log list (swept_plain (take (length cards) cards))) k.1

module _ (b : Bool) (start : Start) (cards : List Card) (log list : List ℕ) (begun : Begun start cards log list) (typed : All Typed cards) (field : within cards ≡ true) where
  abbrev n : ℕ
  n = length cards

  row : take n cards ≡ cards
  row = take_row n cards refl

  pub row_log_fits : log_size (swept_if b cards).exchanges ≤ length log
  row_log_fits = omega (arith, begun.log_has_room, (fits b cards typed field).0)

  pub row_list_fits : length (list_bytes (swept_if b cards).found) ≤ length list
  row_list_fits = omega (arith, begun.list_has_room, (fits b cards typed field).1)

  pub carried : (s : RowSwept) (after : List Card) (log₁ list₁ : List ℕ) → s ≡ end_row (swept_if b cards) → after ≡ (swept_if b cards).cards
      → log₁ ≡ overlay log 0 (log_bytes start.tick (swept_if b cards).exchanges) → list₁ ≡ overlay list 0 (list_bytes (swept_if b cards).found)
      → Called b start cards n log list (swept_row s after) log₁ list₁
  unfolding done
  carried s after log₁ list₁ es ec el ef =
      let e : call (swept_row s after) log₁ list₁ ≡ done start.tick cards n log list (swept_if b (take n cards)) = rw (es, ec, el, ef, row, drop_row n cards refl, append-nil, log_size_law start.tick (swept_if b cards).exchanges) in
      let t : Terms start cards n log list = record { new = begun.new; log_has_room = begun.log_has_room; list_has_room = begun.list_has_room; few = begun.few; field = ap within row ∙ field } in
      (e ∙ sym (runs (swept_if b) start cards n log list t), λ t. subst (All Typed) (sym row) typed)
