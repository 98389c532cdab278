-- `kept_slots::within::settle` meets its contract, by the laws `row_stays` and `row_kept`. Assumes nothing.
use mathlib.Core.Path.{sym, ap, ◌∙◌}
use Rattle.kept_b.specs.KeptReaderB.{stays}
use Rattle.kept_slots.specs.SlotsLaws.{row_stays, row_kept}
use Rattle.kept_slots.proofs.within.settle.Goals.{then-not-stays, else-not-stays}
use Rattle.kept_slots.proofs.within.settle.Goals as goal

pub returns : goal.returns
returns c =
    let a = c.args in
    let e = c.inquired_turn-t.ensures in
    let k = rw e at c.settle.ensures in
    elim c.if-not-stays.branch [
      | then-not-stays w ↦
          (let p = w.put_cards.ensures in
          let h = sym (ap (stays a.x) e) ∙ sym c.stays.ensures ∙ w.if-not-stays.true in
          let both = row_kept a.x a.n a.s a.list.now a.cards.now _ h p.b_after p.b_after_2 p.cards_len in
          record { value = c.inquired_number.ensures; state_after = k.state_after; state_after_2 = k.state_after_2; cards_after = rw w.cards-is both.0; says = rw w.cards-is both.1 })
      | else-not-stays w ↦
          (let h = sym (ap (stays a.x) e) ∙ sym c.stays.ensures ∙ w.if-not-stays.false in
          let both = row_stays a.x a.n a.s a.list.now a.cards.now h in
          record { value = c.inquired_number.ensures; state_after = k.state_after; state_after_2 = k.state_after_2; cards_after = rw w.cards-is both.0; says = rw w.cards-is both.1 })
    ]
