-- `wake::within::step` meets its contract: the frame stands at the front of one array, what is heard at the front of another. Assumes nothing.
use mathlib.Core.Path.{◌≡◌, ap, ◌∙◌}
use native.Mathlib.Omega.{arith}
use lib.ListN.{take, length-take}
use Rattle.reader.specs.Reader.{frame, hear}
use Rattle.field.specs.Calls.{cards_after}
use Rattle.field.specs.Field.{heard_from}
use Rattle.sweep_steps.specs.ExchangeLaws.{Front, front_of_law, heard_front}
use Rattle.wake.specs.Steps.{stepped}
use Rattle.wake.proofs.within.step.Goals as goal

pub slice_bounds-frame-end : goal.slice_bounds-frame-end
slice_bounds-frame-end c = let a = c.args in
    let b = c.frame_bits-bits in
    let p = c.put_frame in
    let u : Front (frame a.w.reader) b.result p.new.out = front_of_law _ (frame a.w.reader) b.result p.new.out b.ensures p.ensures in
    u.fits

pub slice_bounds-take_all-end : goal.slice_bounds-take_all-end
slice_bounds-take_all-end c = let a = c.args in
    let b = c.frame_bits-bits in
    let p = c.put_frame in
    let u : Front (frame a.w.reader) b.result p.new.out = front_of_law _ (frame a.w.reader) b.result p.new.out b.ensures p.ensures in
    rw length-take (omega (arith, u.fits))

pub slice_bounds-heard-end : goal.slice_bounds-heard-end
slice_bounds-heard-end c = let a = c.args in
    let b = c.frame_bits-bits in
    let p = c.put_frame in
    let u : Front (frame a.w.reader) b.result p.new.out = front_of_law _ (frame a.w.reader) b.result p.new.out b.ensures p.ensures in
    let t = c.take_all-t in
    let v : Front (heard_from (frame a.w.reader) (take a.n a.w.cards)) t.result.bits t.new.heard =
    heard_front (frame a.w.reader) b.result p.new.out u a.w.cards a.n t.result t.ensures.value _ t.new.heard t.ensures.heard_after in
    v.fits

pub slice_bounds-hear_rules-end : goal.slice_bounds-hear_rules-end
slice_bounds-hear_rules-end c = let a = c.args in
    let b = c.frame_bits-bits in
    let p = c.put_frame in
    let u : Front (frame a.w.reader) b.result p.new.out = front_of_law _ (frame a.w.reader) b.result p.new.out b.ensures p.ensures in
    let t = c.take_all-t in
    let v : Front (heard_from (frame a.w.reader) (take a.n a.w.cards)) t.result.bits t.new.heard =
    heard_front (frame a.w.reader) b.result p.new.out u a.w.cards a.n t.result t.ensures.value _ t.new.heard t.ensures.heard_after in
    rw length-take (omega (arith, v.fits))

pub returns : goal.returns
unfolding stepped
returns c = let a = c.args in
    let b = c.frame_bits-bits in
    let p = c.put_frame in
    let u : Front (frame a.w.reader) b.result p.new.out = front_of_law _ (frame a.w.reader) b.result p.new.out b.ensures p.ensures in
    let t = c.take_all-t in
    let v : Front (heard_from (frame a.w.reader) (take a.n a.w.cards)) t.result.bits t.new.heard =
    heard_front (frame a.w.reader) b.result p.new.out u a.w.cards a.n t.result t.ensures.value _ t.new.heard t.ensures.heard_after in
    let h = c.hear_rules-next in
    let turn : h.result ≡ hear a.w.reader (heard_from (frame a.w.reader) (take a.n a.w.cards)) = h.ensures ∙ ap (hear a.w.reader) v.bits in
    let cards : t.result.cards ≡ cards_after a.w.cards a.n (frame a.w.reader) = ap (λ y. y.cards) t.ensures.value ∙ ap (cards_after a.w.cards a.n) u.bits in
    rw (turn, cards)
