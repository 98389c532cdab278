-- `frame_b::within::bytes_of` meets its contract. The loop's invariant: the first i bytes are written. Assumes nothing.
use Rattle.std.proofs.Common.{◌≡◌}
use Rattle.rows.specs.Rows.{overlay}
use Rattle.frame.specs.Frame.{bytes_of}
use Rattle.frame_b.proofs.within.bytes_of.Given as goal

abbrev pub invariant-loop-i : goal.invariant-loop-i
invariant-loop-i l = l.byte-items ≡ overlay l.initial.byte-items 0 (bytes_of l.i l.row)
