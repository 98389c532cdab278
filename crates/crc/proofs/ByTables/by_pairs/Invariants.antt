-- `crc::ByTables::by_pairs` meets its contract. The loop's invariant: the bytes that are left lead from c to the answer. Assumes nothing.
use mathlib.Core.Path.{◌≡◌}
use lib.ListN.{length}
use Rattle.crc.specs.Crc.{crc_from}
use Rattle.crc.proofs.ByTables.by_pairs.Given as goal

abbrev pub invariant-loop-left : goal.invariant-loop-left
invariant-loop-left l = crc_from l.c l.left ≡ crc_from l.start l.bytes

abbrev pub decreases-loop-left : goal.decreases-loop-left
decreases-loop-left l = length l.left
