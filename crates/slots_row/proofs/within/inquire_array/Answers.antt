-- `slots_row::within::inquire_array` meets its contract: the array's first cards are lent to `inquire_row`, and what that says of the row, it says of the array. Assumes nothing.
use Rattle.std.proofs.Common.{◌≡◌, length, rules, arith, length-take-le}
use Rattle.limits.specs.Limits.{most_cards}
use Rattle.slots_row.specs.ArrayLaws.{array_promised}
use Rattle.slots_row.specs.Row.{request_of}
use Rattle.slots_row.proofs.within.inquire_array.Goals as goal

pub returns : goal.returns
returns c =
    let a = c.args in
    let s = c.inquire_row-inquired in
    let l : length a.cards ≡ most_cards = search rules in
    array_promised (request_of a.r a.wake a.n a.afi) a.cards a.count a.list.now (length-take-le a.count a.cards (omega arith)) s.result s.new.cards s.new.list s.ensures
