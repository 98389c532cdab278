-- `frame_v::within::row_crc` meets its contract. The loop's invariant: the bytes that are left lead from c to the answer. Assumes nothing.
use Prim.Native.Nat.{◌≤◌, ◌-◌}
use mathlib.Core.Path.{◌≡◌}
use lib.ListN.{drop}
use Rattle.crc.specs.Crc.{crc_from}
use Rattle.frame.specs.Frame.{bytes_of}
use Rattle.frame_v.proofs.within.row_crc.Given as goal

abbrev pub invariant-loop-i : goal.invariant-loop-i
invariant-loop-i l = (l.i ≤ l.n) × (crc_from l.c (drop l.i (bytes_of l.n l.row)) ≡ crc_from 0xFFFF (bytes_of l.n l.row))

abbrev pub decreases-loop-i : goal.decreases-loop-i
decreases-loop-i l = l.n - l.i
