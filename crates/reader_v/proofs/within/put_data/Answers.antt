-- `reader_v::within::put_data` meets its contract: the bytes of a read stand in the row. Assumes nothing.
use Rattle.std.proofs.Common.{◌-◌, length, arith, length-take, length-drop}
use Rattle.rows.specs.HeardLaws.{clean_take, clean_drop}
use Rattle.reader_v.proofs.within.put_data.Goals as goal

pub bytes_of-requires : goal.bytes_of-requires
bytes_of-requires c =
    let h = rw c.in-Data.is at c.requires in
    (rw (length-take, length-drop) (omega (arith, h.0)), h.1, clean_take (length c.args.row.now - 8) _ (clean_drop 8 _ h.2))
