-- `air_log::within::put_row` meets its contract: two rows written one behind the other are one. Assumes nothing.
use mathlib.Core.Path.{refl}
use native.Mathlib.Omega.{arith}
use lib.ListN.{length}
use Rattle.air_log.specs.Log.{pack, plain}
use Rattle.air_log.proofs.RecordLaws.{length_pack, row_written}
use mathlib.Core.Bool.{false}
use Rattle.air_log.specs.Calls.{kind_number}
use Rattle.air_log.proofs.within.put_row.Goals as goal

pub returns : goal.returns
returns c = let a = c.args in
    let r = a.row.now in record {
      value = refl;
      out_after = rw (c.put_packed.ensures, c.put.ensures, c.head_of.ensures)
          (row_written a.out.now a.at (kind_number a.kind) (length r) a.tick (pack (plain r)) (omega (arith, length_pack false r)));
    }
