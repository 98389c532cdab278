use lib.Seq.{length-take-le}
use mathlib.Core.Path.{◌≡◌, sym, ap₂}
use native.Mathlib.Omega.{arith}
use lib.ListN.{length, length-take}
use Rattle.reader.specs.Reader.{frame}
use Rattle.sweep_steps.specs.ExchangeLaws.{Front, front_of_law}
use Rattle.rows.specs.CleanLaws.{bits_clean}
use Rattle.reader.specs.FrameLaws.{frame_bits}
use Rattle.sweep_row.specs.Row.{exchange_with, exchanged_with}
use borrow.Author.Rules.{rules}
use Rattle.sweep_row.proofs.finish.exchange.Goals as goal

pub slice_bounds-frame-end : goal.slice_bounds-frame-end
slice_bounds-frame-end g c = let b = c.frame_bits-bits in
    let w = c.put_frame in
    let u : Front (frame c.args.r) b.result w.new.out = front_of_law _ _ _ _ b.ensures w.ensures in u.fits

pub slice_bounds-put_exchange-end : goal.slice_bounds-put_exchange-end
slice_bounds-put_exchange-end g c = let b = c.frame_bits-bits in
    let w = c.put_frame in
    let u : Front (frame c.args.r) b.result w.new.out = front_of_law _ _ _ _ b.ensures w.ensures in rw length-take (omega (arith, u.fits))

pub shared_ref_as_front-heard : goal.shared_ref_as_front-heard
shared_ref_as_front-heard g c = let n : length c.args.a.heard ≡ 45 = search rules in omega (arith, n, c.requires.0)

pub slice_bounds-heard-end : goal.slice_bounds-heard-end
slice_bounds-heard-end g c = sym (length-take-le _ _ c.requires.0)

pub put_exchange-requires : goal.put_exchange-requires
unfolding exchange_with
put_exchange-requires g c = let a = c.args in
    let q = c.requires in
    let b = c.frame_bits-bits in
    let w = c.put_frame in
    let forty-five : length a.a.heard ≡ 45 = search rules in
    let u : Front (frame a.r) b.result w.new.out = front_of_law _ _ _ _ b.ensures w.ensures in
    (rw u.bits (bits_clean _ (frame_bits a.r)), rw length-take (omega (arith, u.fits, w.auto.out)), rw length-take (omega (arith, q.0, forty-five)), rw u.bits q.1, q.2)

pub returns : goal.returns
unfolding exchanged_with exchange_with
returns g c = let w = c.put_frame in
    let x = c.put_exchange in
    let u : Front (frame c.args.r) c.frame_bits-bits.result w.new.out = front_of_law _ _ _ _ c.frame_bits-bits.ensures w.ensures in record { value = ap₂ (λ t b. record { memory = t; bytes = b }) c.hear.ensures (rw u.bits at x.ensures.value); log_after = rw u.bits at x.ensures.log_after }
