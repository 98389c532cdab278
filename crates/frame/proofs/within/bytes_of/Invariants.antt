-- `frame::within::bytes_of` meets its contract. The loop's invariant: the first i bytes are written. Assumes nothing.
use Prim.Native.Nat.{◌≤◌, ◌-◌, ◌*◌}
use mathlib.Core.Path.{◌≡◌}
use lib.ListN.{length}
use Rattle.rows.specs.Rows.{overlay}
use Rattle.frame.specs.Frame.{data_of, bytes_of}
use Rattle.frame.proofs.within.bytes_of.Given as goal

abbrev pub invariant-loop-i : goal.invariant-loop-i
invariant-loop-i l =
    (l.i ≤ length l.b-items) × (length l.b-items ≡ length l.initial.b-items) × (l.b-items ≡ overlay l.initial.b-items 0 (bytes_of l.i (data_of l.i l.row)))
