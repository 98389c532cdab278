-- `crc::ByBytes::crc` meets its contract. The loop's invariant: the bytes that are left lead from c to the answer. Assumes nothing.
use Prim.Native.Nat.{◌≤◌}
use mathlib.Core.Path.{◌≡◌}
use lib.ListN.{length, drop}
use Rattle.crc.specs.Crc.{crc_from}
use Rattle.crc.proofs.ByBytes.crc.Given as goal

abbrev pub invariant-loop-b : goal.invariant-loop-b
invariant-loop-b l = (l.b-index ≤ length l.bytes) × (crc_from l.c (drop l.b-index l.bytes) ≡ crc_from l.start l.bytes)
