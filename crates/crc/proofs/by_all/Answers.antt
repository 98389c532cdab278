-- `crc::by_all` meets its contract, by that of `ByTables::crc`. The rules of the second and the third table are shown here, each once, over all of
-- their entries. Assumes nothing.
use mathlib.Core.Path.{refl}
use Rattle.crc.specs.Crc.{shift, shifts}
use Rattle.crc.specs.Table.{entries, table, placed, half_table}
use Rattle.crc.proofs.by_all.Goals as goal

pub invariant_of-tables : goal.invariant_of-tables
unfolding table half_table entries placed shifts shift
invariant_of-tables c = record { two_bytes = refl; over_eight = refl }
