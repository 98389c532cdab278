-- `crc::ByTables::crc` meets its contract. The loop's invariant: the bytes that are left lead from c to the answer. Assumes nothing.
use mathlib.Core.Path.{◌≡◌}
use lib.ListN.{length}
use Rattle.crc.specs.Crc.{crc_from}
use Rattle.crc.proofs.ByTables.crc.Given as goal

abbrev pub invariant-loop-eight : goal.invariant-loop-eight
invariant-loop-eight l = crc_from l.c l.left ≡ crc_from l.start l.bytes

abbrev pub decreases-loop-eight : goal.decreases-loop-eight
decreases-loop-eight l = length l.left
