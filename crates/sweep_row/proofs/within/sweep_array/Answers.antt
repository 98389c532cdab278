-- `sweep_row::within::sweep_array` meets its contract: the array's first cards are lent to `sweep_row`, and what that says of the row, it says of the
-- array. Assumes nothing.
use Rattle.std.proofs.Common.{◌≡◌, length, rules, arith, length-take-le}
use Rattle.limits.specs.Limits.{most_cards}
use Rattle.sweep_row.specs.ArrayLaws.{array_promised}
use Rattle.sweep_row.proofs.within.sweep_array.Goals as goal

pub returns : goal.returns
returns c =
    let a = c.args in
    let s = c.sweep_row-swept in
    let l : length a.cards ≡ most_cards = search rules in
    array_promised a.start a.cards a.n a.log.now a.list.now (length-take-le a.n a.cards (omega arith)) s.result s.new.cards s.new.log s.new.list (s.ensures.list_after, s.ensures.sweeps)
