-- `wake_row::wake_row` meets its contract: the row is the first cards of an array, over which the call is made as values. Assumes nothing.
use mathlib.Core.Path.{◌≡◌, refl, ap, ◌∙◌}
use lib.Seq.{take_at}
use lib.ListN.{length}
use Rattle.uid.specs.Uid.{uid_bytes}
use Rattle.wake_row.specs.RowLaws.{row_declined, row_woken}
use Rattle.wake_row.proofs.wake_row.Goals as goal

pub returns-then-n-gt-MOST_CARDS : goal.returns-then-n-gt-MOST_CARDS
returns-then-n-gt-MOST_CARDS c = let a = c.args in
    row_declined a.r (uid_bytes a.u) _ a.cards.now (length a.cards.now) refl c.woken.result c.woken.ensures.value c.woken.ensures.wakens c.from.result c.from.ensures c.if-n-gt-MOST_CARDS.true

pub returns : goal.returns
returns c = let a = c.args in
    let w = c.woken-w in
    let held : c.copy_from_slice.new.self ≡ a.cards.now = c.copy_from_slice.ensures.after in
    row_woken a.r (uid_bytes a.u) _ a.cards.now (length a.cards.now) refl w.result w.ensures.value w.ensures.wakens c.from-2.result c.from-2.ensures
    (take_at c.copy_from_slice.new.self _ (length a.cards.now) (ap length held) ∙ held) _ c.copy_from_slice-2.ensures.after
