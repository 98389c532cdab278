-- `answer_v::within::is_in_slot` meets its contract: four of the row's bits. Assumes nothing.
use Rattle.std.proofs.Common.{◌≡◌, ◌+◌, ◌-◌, arith, length-take}
use Rattle.rows.specs.HeardLaws.{clean_take, clean_drop}
use Rattle.answer_v.proofs.within.is_in_slot.Goals as goal

pub number_of-requires : goal.number_of-requires
number_of-requires c =
    let e : 16 + c.args.k.len + 4 - (16 + c.args.k.len) ≡ 4 = omega arith in
    (rw (e, length-take) (omega arith), clean_take (16 + c.args.k.len + 4 - (16 + c.args.k.len)) _ (clean_drop (16 + c.args.k.len) _ c.requires.1))
