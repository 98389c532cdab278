use Prim.Native.Nat.{◌≤◌}
use mathlib.Core.Path.{◌≡◌, sym, ap, ap₂, subst, ◌∙◌}
use native.Mathlib.Omega.{arith}
use lib.ListN.{length, length-take}
use Rattle.rows.specs.Rows.{overlay}
use Rattle.field.specs.Merge.{join}
use Rattle.card.specs.Card.{takes, answers}
use Rattle.reader.specs.Reader.{frame}
use Rattle.sweep_steps.specs.ExchangeLaws.{Front, front_of_law}
use Rattle.sweep_row.specs.Row.{heard_with, heard_card, heard_in}
use borrow.Author.Rules.{rules}
use Rattle.sweep_row.proofs.air.hear_card.Goals as goal

pub slice_bounds-frame-end : goal.slice_bounds-frame-end
slice_bounds-frame-end c = let b = c.frame_bits-n in
    let w = c.put_frame in
    let u : Front (frame c.args.r) b.result w.new.out = front_of_law _ _ _ _ b.ensures w.ensures in
    u.fits

pub slice_bounds-take_one-end : goal.slice_bounds-take_one-end
slice_bounds-take_one-end c = let b = c.frame_bits-n in
    let w = c.put_frame in
    let u : Front (frame c.args.r) b.result w.new.out = front_of_law _ _ _ _ b.ensures w.ensures in
    rw length-take (omega (arith, u.fits))

pub take_one-o-requires : goal.take_one-o-requires
take_one-o-requires c = let h : length c.args.a.heard ≡ 45 = search rules in
    (c.requires, subst (λ n. 45 ≤ n) (sym h) (omega arith))

pub returns : goal.returns
unfolding heard_card heard_with
returns c = let a = c.args in
    let w = c.put_frame in
    let u : Front (frame a.r) c.frame_bits-n.result w.new.out = front_of_law _ _ _ _ c.frame_bits-n.ensures w.ensures in
    ap₂ (λ k b. record { card = k; air = b })
    (ap (λ o. o.card) c.take_one-o.ensures.value ∙ ap (takes a.c) u.bits)
    (ap₂ (λ d m. record { heard = d; bits = m })
    (c.take_one-o.ensures.heard_after ∙ ap (λ f. overlay a.a.heard 0 (join (answers a.c f) (heard_in a.a))) u.bits)
    (ap (λ o. o.bits) c.take_one-o.ensures.value ∙ ap (λ f. length (join (answers a.c f) (heard_in a.a))) u.bits))
