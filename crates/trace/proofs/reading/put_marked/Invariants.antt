-- The loop's invariant: the first i bits are written.
use Prim.Native.Nat.{◌≤◌, ◌-◌}
use mathlib.Core.Path.{◌≡◌}
use lib.ListN.{length, take}
use Rattle.rows.specs.Rows.{overlay}
use Rattle.air_log.specs.Reading.{row_at}
use Rattle.trace_rules.specs.Trace.{marked}
use Rattle.trace.proofs.reading.put_marked.Given as goal

abbrev pub invariant-loop-i : goal.invariant-loop-i
invariant-loop-i l = (l.i ≤ length l.bit-items) × (length l.bit-items ≡ length l.initial.bit-items) × (l.bit-items ≡ overlay l.initial.bit-items 0 (take l.i (marked (row_at l.log l.start l.n) (row_at l.log l.marks l.n))))
