-- `kept_wake::within::settle` meets its contract, by the laws `woken_refused` and `woken_kept`. Assumes nothing.
use mathlib.Core.Path.{sym, ◌∙◌}
use Rattle.kept_wake.specs.WakeLaws.{woken_refused, woken_kept}
use Rattle.kept_wake.proofs.within.settle.Goals as goal

pub returns-then-selection_refuses : goal.returns-then-selection_refuses
returns-then-selection_refuses c = let e = c.turn_of.ensures in
    let a = c.args in
    let k = rw e at c.settle-told.ensures in
    let w = woken_refused a.s a.n a.cards.now _ (sym c.selection_refuses.ensures ∙ c.if-selection_refuses.true) k.value in
    record { value = w.0; state_after = k.state_after; state_after_2 = k.state_after_2; cards_after = w.1.0; says = w.1.1 }

pub returns : goal.returns
returns c = let e = c.turn_of.ensures in
    let a = c.args in
    let k = rw e at c.settle-told.ensures in
    let p = c.put_cards.ensures in
    let w = woken_kept a.s a.n a.cards.now _ (sym c.selection_refuses.ensures ∙ c.if-selection_refuses.false) p.b_after p.b_after_2 p.cards_len in
    record { value = w.0; state_after = k.state_after; state_after_2 = k.state_after_2; cards_after = w.1.0; says = w.1.1 }
