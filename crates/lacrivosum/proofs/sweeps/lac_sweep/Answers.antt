-- `lacrivosum::sweeps::lac_sweep` meets its contract, by the laws `short_state`, `short_row` and `plain_made`. Assumes nothing.
use mathlib.Core.Path.{refl}
use native.Mathlib.Omega.{arith}
use Rattle.lacrivosum.specs.FieldCallLaws.{short_state, short_row, plain_made}
use Rattle.lacrivosum.proofs.sweeps.lac_sweep.Goals as goal

pub returns-then-state-lt-STATE_SIZE : goal.returns-then-state-lt-STATE_SIZE
returns-then-state-lt-STATE_SIZE c = let a = c.args in record { list_value = short_state a.state.now a.cards.now a.n a.log.now a.list.now _ _ c.refused.ensures c.if-state-lt-STATE_SIZE.true; unchanged = λ h. refl; field_says = λ t. absurd (omega (arith, t.state_room)) }

pub returns-then-cards-n : goal.returns-then-cards-n
returns-then-cards-n c = let a = c.args in record { list_value = short_row a.state.now a.cards.now a.n a.log.now a.list.now _ _ c.refused-then-cards-n.ensures c.if-state-lt-STATE_SIZE.false c.if-cards-n.true; unchanged = λ h. refl; field_says = λ t. absurd (omega (arith, t.cards_room)) }

pub returns : goal.returns
returns c = let a = c.args in
    let z = c.settle.ensures in
    let m = plain_made a.state.now a.cards.now a.n a.tick a.log.now a.list.now c.sweep-s.result _ _ _ _ _ in let both = m c.if-state-lt-STATE_SIZE.false c.if-cards-n.false z.value z.state_after z.cards_after z.says _ _ c.start_of-start.ensures c.cards_of-field.ensures
    c.sweep-s.ensures.list_after c.sweep-s.ensures.sweeps in record { list_value = both.0; unchanged = both.1.0; field_says = both.1.1 }
