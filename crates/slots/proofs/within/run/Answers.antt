use mathlib.Core.Path.{◌≡◌, refl, sym, ◌∙◌}
use mathlib.Core.Bool.{true, false}
use borrow.Author.Rules.{rules}
use Rattle.slots.specs.Steps.{goes_on}
use Rattle.slots.specs.RunLaws.{under_none, under_room, under_turn, under_last, under_cards, under_slots, under_list, fewer_left}
use Rattle.slots.proofs.within.run.Goals as goal

pub loop-q-init : goal.loop-q-init
loop-q-init c = let a = c.args in
    under_none a.q.wake a.q.slots a.q.afi a.count a.cards a.list.now _ c.turn-t.ensures refl refl refl (search rules)

pub step-p-requires : goal.step-p-requires
step-p-requires c = let l = c.loop-q in
    let a = c.args in
    let k = c.requires in
    let g : goes_on l.p a.q.slots ≡ true = sym c.goes_on.ensures ∙ c.loop-q-test.true in
    under_room a.q.wake a.q.slots a.q.afi a.count _ a.cards a.list.now l.p l.list l.invariant g k.0 k.1 k.2

pub loop-q-smaller : goal.loop-q-smaller
loop-q-smaller c = let l = c.loop-q in
    let a = c.args in
    let g : goes_on l.p a.q.slots ≡ true = sym c.goes_on.ensures ∙ c.loop-q-test.true in
    fewer_left a.q.wake a.q.slots a.q.afi a.count l.p _ g c.step-p.ensures.value

pub loop-q-preserved : goal.loop-q-preserved
loop-q-preserved c = let l = c.loop-q in
    let a = c.args in
    let k = c.requires in
    let s = c.step-p in
    let g : goes_on l.p a.q.slots ≡ true = sym c.goes_on.ensures ∙ c.loop-q-test.true in
    under_turn a.q.wake a.q.slots a.q.afi a.count _ a.cards a.list.now l.p l.list l.invariant g k.0 k.1 k.2 s.result s.new.list s.ensures.value s.ensures.list_after s.ensures.turn_len

pub shape_of-list : goal.shape_of-list
shape_of-list c = c.loop-q.invariant.list_size

pub returns : goal.returns
returns c = let l = c.loop-q in
    let a = c.args in
    let g : goes_on l.p a.q.slots ≡ false = sym c.goes_on.ensures ∙ c.loop-q-test.false in record { turn_value = under_last a.q.wake a.q.slots a.q.afi a.count _ a.cards a.list.now l.p l.list l.invariant g; cards_value = under_cards a.q.wake a.q.slots a.q.afi a.count _ a.cards a.list.now l.p l.list l.invariant g; slots_value = under_slots a.q.wake a.q.slots a.q.afi a.count _ a.cards a.list.now l.p l.list l.invariant g; list_after = under_list a.q.wake a.q.slots a.q.afi a.count _ a.cards a.list.now l.p l.list l.invariant g }
