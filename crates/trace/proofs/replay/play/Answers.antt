use mathlib.Core.Path.{ap, ◌∙◌}
use native.Mathlib.Omega.{arith}
use lib.ListN.{length-take}
use Rattle.reader.specs.Reader.{hear}
use Rattle.field.specs.Calls.{cards_after}
use Rattle.sweep_steps.specs.ExchangeLaws.{front_of_law, heard_front}
use Rattle.trace.specs.Loops.{played}
use Rattle.trace.proofs.replay.play.Goals as goal

pub slice_bounds-frame-end : goal.slice_bounds-frame-end
slice_bounds-frame-end c = (front_of_law _ _ _ _ c.frame_bits-bits.ensures c.put_frame.ensures).fits

pub slice_bounds-take_all-end : goal.slice_bounds-take_all-end
slice_bounds-take_all-end c = rw length-take (omega (arith, (front_of_law _ _ _ _ c.frame_bits-bits.ensures c.put_frame.ensures).fits))

pub slice_bounds-heard-end : goal.slice_bounds-heard-end
slice_bounds-heard-end c = (heard_front _ _ _ (front_of_law _ _ _ _ c.frame_bits-bits.ensures c.put_frame.ensures) _ _ _ c.take_all-x.ensures.value _ _ c.take_all-x.ensures.heard_after).fits

pub slice_bounds-hear_rules-end : goal.slice_bounds-hear_rules-end
slice_bounds-hear_rules-end c = rw length-take (omega (arith, (heard_front _ _ _ (front_of_law _ _ _ _ c.frame_bits-bits.ensures c.put_frame.ensures) _ _ _ c.take_all-x.ensures.value _ _ c.take_all-x.ensures.heard_after).fits))

pub slice_bounds-frame-end-2 : goal.slice_bounds-frame-end-2
slice_bounds-frame-end-2 c = (front_of_law _ _ _ _ c.frame_bits-bits.ensures c.put_frame.ensures).fits

pub slice_bounds-compare-end : goal.slice_bounds-compare-end
slice_bounds-compare-end c = rw length-take (omega (arith, (front_of_law _ _ _ _ c.frame_bits-bits.ensures c.put_frame.ensures).fits))

pub slice_bounds-heard-end-2 : goal.slice_bounds-heard-end-2
slice_bounds-heard-end-2 c = (heard_front _ _ _ (front_of_law _ _ _ _ c.frame_bits-bits.ensures c.put_frame.ensures) _ _ _ c.take_all-x.ensures.value _ _ c.take_all-x.ensures.heard_after).fits

pub slice_bounds-compare-end-2 : goal.slice_bounds-compare-end-2
slice_bounds-compare-end-2 c = rw length-take (omega (arith, (heard_front _ _ _ (front_of_law _ _ _ _ c.frame_bits-bits.ensures c.put_frame.ensures) _ _ _ c.take_all-x.ensures.value _ _ c.take_all-x.ensures.heard_after).fits))

pub returns : goal.returns
unfolding played
returns c = let a = c.args in
    let u = front_of_law _ _ _ _ c.frame_bits-bits.ensures c.put_frame.ensures in
    let v = heard_front _ _ _ (front_of_law _ _ _ _ c.frame_bits-bits.ensures c.put_frame.ensures) _ _ _ c.take_all-x.ensures.value _ _ c.take_all-x.ensures.heard_after in
    let turn = c.hear_rules.ensures ∙ ap (hear a.t.reader) v.bits in
    let cards = ap (λ y. y.cards) c.take_all-x.ensures.value ∙ ap (cards_after a.cards a.n) u.bits in
    let held = rw (u.bits, v.bits) at c.compare.ensures in
    rw (turn, cards, held)
