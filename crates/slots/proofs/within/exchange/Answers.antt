-- `slots::within::exchange` meets its contract: what is heard stands at the front of the row. Assumes nothing.
use mathlib.Core.Path.{ap, ap₂, ◌∙◌}
use native.Mathlib.Omega.{arith}
use lib.ListN.{take, length-take}
use Rattle.reader_b.specs.ReaderB.{hear}
use Rattle.field_b.specs.FieldB.{heard_from}
use Rattle.slots.specs.Steps.{exchanged}
use Rattle.slots.specs.StepLaws.{Front, front_of_law}
use Rattle.slots.proofs.within.exchange.Goals as goal

pub slice_bounds-heard-end : goal.slice_bounds-heard-end
slice_bounds-heard-end c = let a = c.args in
    let t = c.take_all-t in
    let v : Front (heard_from a.frame.now (take a.count a.cards)) t.result.bits t.new.heard = front_of_law _ _ t.result.bits t.new.heard (ap (λ y. y.bits) t.ensures.value) t.ensures.heard_after in
    v.fits

pub slice_bounds-hear_rules-end : goal.slice_bounds-hear_rules-end
slice_bounds-hear_rules-end c = let a = c.args in
    let t = c.take_all-t in
    let v : Front (heard_from a.frame.now (take a.count a.cards)) t.result.bits t.new.heard = front_of_law _ _ t.result.bits t.new.heard (ap (λ y. y.bits) t.ensures.value) t.ensures.heard_after in
    rw length-take (omega (arith, v.fits))

pub returns : goal.returns
unfolding exchanged
returns c = let a = c.args in
    let t = c.take_all-t in
    let v : Front (heard_from a.frame.now (take a.count a.cards)) t.result.bits t.new.heard = front_of_law _ _ t.result.bits t.new.heard (ap (λ y. y.bits) t.ensures.value) t.ensures.heard_after in
    ap₂ (λ x y. record { turn = x; cards = y }) (c.hear_rules-turn.ensures ∙ ap (hear a.r) v.bits) (ap (λ y. y.cards) t.ensures.value)
