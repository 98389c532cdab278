-- `delay::frames::byte_from` meets its contract: the row ends before the byte, within it, or behind it. Assumes nothing.
use Rattle.std.proofs.Common.{◌-◌, length, drop, arith, length-take}
use Rattle.rows.specs.HeardLaws.{clean_take, clean_drop}
use Rattle.delay.specs.KindLaws.{byte_none}
use Rattle.delay.proofs.frames.byte_from.Goals as goal

pub returns-then-row-at : goal.returns-then-row-at
returns-then-row-at c = byte_none c.args.row.now c.args.at (omega arith)

pub number_of-requires : goal.number_of-requires
number_of-requires c = let a = c.args in
    (rw length-take (omega arith), clean_take (length a.row.now - a.at) (drop a.at a.row.now) (clean_drop a.at a.row.now c.requires))

pub byte_at-requires : goal.byte_at-requires
byte_at-requires c = let a = c.args in
    (omega arith, clean_take 8 (drop a.at a.row.now) (clean_drop a.at a.row.now c.requires))
