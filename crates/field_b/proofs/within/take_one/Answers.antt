-- `field_b::within::take_one` meets its contract. That an answer has at most 112 bits follows from the row into which it was written. Assumes nothing.
use mathlib.Core.Path.{ap, ap₂, ◌∙◌}
use native.Mathlib.Omega.{arith}
use lib.ListN.{length, take, length-take}
use Rattle.rows.specs.Rows.{overlay}
use Rattle.card_b.specs.CardB.{Step, rules, takes, answers}
use Rattle.field.specs.Merge.{join}
use Rattle.field_b.specs.FieldB.{takes_b, answers_b}
use Rattle.field_b.specs.TakeBLaws.{Answered, answered}
use Rattle.field_b.proofs.within.take_one.Goals as goal

pub slice_bounds-row-end : goal.slice_bounds-row-end
slice_bounds-row-end c = let t = c.take_rules-t in
    let b = c.bits_in-n in
    let a = c.args in
    let s : Step = rules a.d.card a.d.card.state a.d.number a.frame.now in
    let k : Answered s b.result t.new.out = answered a.d.card s t.result b.result _ t.new.out t.ensures.value b.ensures t.ensures.out_after t.auto.out in
    omega (arith, k.fits, t.auto.out)

pub slice_bounds-join-end : goal.slice_bounds-join-end
slice_bounds-join-end c = let t = c.take_rules-t in
    let b = c.bits_in-n in
    let a = c.args in
    let s : Step = rules a.d.card a.d.card.state a.d.number a.frame.now in
    let k : Answered s b.result t.new.out = answered a.d.card s t.result b.result _ t.new.out t.ensures.value b.ensures t.ensures.out_after t.auto.out in
    rw length-take (omega (arith, k.fits, t.auto.out))

pub join-bits-requires : goal.join-bits-requires
join-bits-requires c = let t = c.take_rules-t in
    let b = c.bits_in-n in
    let a = c.args in
    let s : Step = rules a.d.card a.d.card.state a.d.number a.frame.now in
    let k : Answered s b.result t.new.out = answered a.d.card s t.result b.result _ t.new.out t.ensures.value b.ensures t.ensures.out_after t.auto.out in
    (search rules, rw length-take (omega (arith, k.fits, t.auto.out)))

pub returns : goal.returns
unfolding takes_b answers_b takes answers
returns c = let t = c.take_rules-t in
    let b = c.bits_in-n in
    let j = c.join-bits in
    let a = c.args in
    let s : Step = rules a.d.card a.d.card.state a.d.number a.frame.now in
    let k : Answered s b.result t.new.out = answered a.d.card s t.result b.result _ t.new.out t.ensures.value b.ensures t.ensures.out_after t.auto.out in record { value = ap₂ (λ x m. record { drawn = record { card = x; number = a.d.number }; bits = m }) (ap (λ x. x.card) t.ensures.value) (j.ensures.value ∙ ap (λ r. length (join r (take a.bits a.heard.now))) k.bits); heard_after = j.ensures.row_after ∙ ap (λ r. overlay a.heard.now 0 (join r (take a.bits a.heard.now))) k.bits }
