-- `frame_b::within::put_bits` meets its contract. The loop's invariant: the first i bytes are written. Assumes nothing.
use Rattle.std.proofs.Common.{◌≡◌, length, take}
use Rattle.rows.specs.Rows.{overlay}
use Rattle.frame.specs.Frame.{air_bits}
use Rattle.frame_b.proofs.within.put_bits.Given as goal

abbrev pub invariant-loop-i : goal.invariant-loop-i
invariant-loop-i l = (length l.out ≡ length l.initial.out) × (l.out ≡ overlay l.initial.out l.at (air_bits (take l.i l.bytes)))
