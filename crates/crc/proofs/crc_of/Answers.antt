-- `crc::crc_of` meets its contract, by that of `by_tables`. The rule of the table is shown here, once, over all of its entries. Assumes nothing.
use mathlib.Core.Path.{refl}
use Rattle.crc.specs.Crc.{shift, shifts}
use Rattle.crc.specs.CrcOf.{crc_of}
use Rattle.crc.specs.Table.{entries, table}
use Rattle.crc.proofs.crc_of.Goals as goal

pub invariant_of-by_bytes : goal.invariant_of-by_bytes
unfolding table entries shifts shift
invariant_of-by_bytes c = record { one_byte = refl }

pub returns : goal.returns
unfolding crc_of
returns c = rw c.by_tables.ensures
