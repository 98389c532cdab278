-- `block::within::read_row` meets its contract, by that of `read_crc_within`. Assumes nothing.
use native.Mathlib.Omega.{arith}
use Rattle.selection.specs.SizeLaws.{size_most}
use Rattle.block.specs.AirLaws.{row_read}
use Rattle.block.proofs.within.read_row.Goals as goal

pub read_crc_within-requires : goal.read_crc_within-requires
read_crc_within-requires c = omega (arith, c.size_of-most.ensures, size_most c.args.own)

pub returns : goal.returns
returns c = let a = c.args in
    let k = row_read a.own c.size_of-most.result _ a.row.now a.out.now _ _ c.size_of-most.ensures c.requires c.read_crc_within.ensures.value c.read_crc_within.ensures.out_after in
    record { value = rw c.unwrap_or.ensures k.0; out_after = k.1 }
