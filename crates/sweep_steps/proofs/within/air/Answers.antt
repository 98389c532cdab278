use mathlib.Core.Path.{◌≡◌, ap, ◌∙◌}
use native.Mathlib.Omega.{arith}
use lib.ListN.{length, take, replicate, length-take}
use Rattle.rows.specs.Rows.{overlay}
use Rattle.reader.specs.Reader.{frame}
use Rattle.field.specs.Calls.{cards_after}
use Rattle.field.specs.Field.{heard_from}
use Rattle.air_log.specs.Log.{exchange_size}
use Rattle.sweep_steps.specs.ExchangeLaws.{Front, front_of_law, heard_front}
use Rattle.rows.specs.CleanLaws.{bits_clean}
use Rattle.reader.specs.FrameLaws.{frame_bits}
use Rattle.sweep_steps.specs.Steps.{exchange_of, aired}
use Rattle.sweep_steps.proofs.within.air.Goals as goal

pub slice_bounds-frame-end : goal.slice_bounds-frame-end
slice_bounds-frame-end c = let a = c.args in
    let b = c.frame_bits-bits in
    let p = c.put_frame in
    let u : Front (frame a.r) b.result p.new.out = front_of_law _ (frame a.r) b.result p.new.out b.ensures p.ensures in
    u.fits

pub slice_bounds-take_all-end : goal.slice_bounds-take_all-end
slice_bounds-take_all-end c = let a = c.args in
    let b = c.frame_bits-bits in
    let p = c.put_frame in
    let u : Front (frame a.r) b.result p.new.out = front_of_law _ (frame a.r) b.result p.new.out b.ensures p.ensures in
    rw length-take (omega (arith, u.fits))

pub slice_bounds-frame-end-2 : goal.slice_bounds-frame-end-2
slice_bounds-frame-end-2 c = let a = c.args in
    let b = c.frame_bits-bits in
    let p = c.put_frame in
    let u : Front (frame a.r) b.result p.new.out = front_of_law _ (frame a.r) b.result p.new.out b.ensures p.ensures in
    u.fits

pub slice_bounds-put_exchange-end : goal.slice_bounds-put_exchange-end
slice_bounds-put_exchange-end c = let a = c.args in
    let b = c.frame_bits-bits in
    let p = c.put_frame in
    let u : Front (frame a.r) b.result p.new.out = front_of_law _ (frame a.r) b.result p.new.out b.ensures p.ensures in
    rw length-take (omega (arith, u.fits))

pub slice_bounds-heard-end : goal.slice_bounds-heard-end
slice_bounds-heard-end c = let a = c.args in
    let b = c.frame_bits-bits in
    let p = c.put_frame in
    let u : Front (frame a.r) b.result p.new.out = front_of_law _ (frame a.r) b.result p.new.out b.ensures p.ensures in
    let t = c.take_all-t in
    let v : Front (heard_from (frame a.r) (take a.n a.cards)) t.result.bits t.new.heard =
    heard_front (frame a.r) b.result p.new.out u a.cards a.n t.result t.ensures.value _ t.new.heard t.ensures.heard_after in
    v.fits

pub slice_bounds-put_exchange-end-2 : goal.slice_bounds-put_exchange-end-2
slice_bounds-put_exchange-end-2 c = let a = c.args in
    let b = c.frame_bits-bits in
    let p = c.put_frame in
    let u : Front (frame a.r) b.result p.new.out = front_of_law _ (frame a.r) b.result p.new.out b.ensures p.ensures in
    let t = c.take_all-t in
    let v : Front (heard_from (frame a.r) (take a.n a.cards)) t.result.bits t.new.heard =
    heard_front (frame a.r) b.result p.new.out u a.cards a.n t.result t.ensures.value _ t.new.heard t.ensures.heard_after in
    rw length-take (omega (arith, v.fits))

pub put_exchange-bytes-requires : goal.put_exchange-bytes-requires
unfolding exchange_of
put_exchange-bytes-requires c = let a = c.args in
    let b = c.frame_bits-bits in
    let p = c.put_frame in
    let u : Front (frame a.r) b.result p.new.out = front_of_law _ (frame a.r) b.result p.new.out b.ensures p.ensures in
    let t = c.take_all-t in
    let v : Front (heard_from (frame a.r) (take a.n a.cards)) t.result.bits t.new.heard =
    heard_front (frame a.r) b.result p.new.out u a.cards a.n t.result t.ensures.value _ t.new.heard t.ensures.heard_after in
    (rw u.bits (bits_clean _ (frame_bits a.r)), rw length-take (omega (arith, u.fits, p.auto.out)), rw length-take (omega (arith, v.fits, t.auto.heard)), rw (u.bits, v.bits) c.requires.1, c.requires.2)

pub returns : goal.returns
unfolding aired exchange_of
returns c = let a = c.args in
    let b = c.frame_bits-bits in
    let p = c.put_frame in
    let u : Front (frame a.r) b.result p.new.out = front_of_law _ (frame a.r) b.result p.new.out b.ensures p.ensures in
    let t = c.take_all-t in
    let v : Front (heard_from (frame a.r) (take a.n a.cards)) t.result.bits t.new.heard =
    heard_front (frame a.r) b.result p.new.out u a.cards a.n t.result t.ensures.value _ t.new.heard t.ensures.heard_after in
    let x = c.put_exchange-bytes in
    let bytes : x.result ≡ exchange_size (exchange_of a.r (take a.n a.cards)) = rw (u.bits, v.bits) at x.ensures.value in
    let bits : t.result.bits ≡ length (heard_from (frame a.r) (take a.n a.cards)) = v.count in
    let heard : t.new.heard ≡ overlay (replicate 45 0) 0 (heard_from (frame a.r) (take a.n a.cards)) = t.ensures.heard_after ∙ ap (λ y. overlay (replicate 45 0) 0 (heard_from y (take a.n a.cards))) u.bits in
    let cards : t.result.cards ≡ cards_after a.cards a.n (frame a.r) = ap (λ y. y.cards) t.ensures.value ∙ ap (cards_after a.cards a.n) u.bits in record { value = rw (bytes, heard, bits, cards); log_after = rw (u.bits, v.bits) at x.ensures.log_after }
