-- `slots_row::inquire_row` meets its contract: what the request over the array says of its first cards, it says of the row. Assumes nothing.
use Rattle.std.proofs.Common.{length, refl, ap, ◌∙◌, take_at}
use Rattle.slots_row.specs.Row.{request_of}
use Rattle.slots_row.specs.RowLaws.{too_many, carried}
use Rattle.slots_row.proofs.inquire_row.Goals as goal

pub returns-then-count-gt-MOST_CARDS : goal.returns-then-count-gt-MOST_CARDS
returns-then-count-gt-MOST_CARDS c =
    let a = c.args in
    let m = c.make in
    rw c.row_of.ensures (too_many (request_of a.r a.wake a.n a.afi) _ a.cards.now (length a.cards.now) a.list.now refl m.result m.new.list m.ensures.promises c.if-count-gt-MOST_CARDS.true)

pub returns : goal.returns
returns c =
    let a = c.args in
    let m = c.make-s in
    let f = c.copy_from_slice.ensures.after in
    rw (c.row_of-2.ensures, c.copy_from_slice-2.ensures.after)
    (carried (request_of a.r a.wake a.n a.afi) _ a.cards.now (length a.cards.now) a.list.now refl m.result m.new.list m.ensures.promises (take_at _ _ (length a.cards.now) (ap length f) ∙ f))
