-- `lacrivosum::wakes::lac_wake` meets its contract, by the laws `short_state`, `short_row` and `woken_made`. Assumes nothing.
use mathlib.Core.Path.{refl, ap}
use native.Mathlib.Omega.{arith}
use Rattle.reader_link.specs.declared.LinkReader.{LinkReader}
use Rattle.lacrivosum.specs.WakingLaws.{short_state, short_row, woken_made}
use Rattle.lacrivosum.proofs.wakes.lac_wake.Goals as goal

pub returns-then-state-lt-STATE_SIZE : goal.returns-then-state-lt-STATE_SIZE
returns-then-state-lt-STATE_SIZE c = let a = c.args in record { n_value = short_state a.state.now a.cards.now a.n _ _ c.refused.ensures c.if-state-lt-STATE_SIZE.true; wake_unchanged = λ e h. refl; wake_says = λ t. absurd (omega (arith, t.state_room)) }

pub returns-then-cards-n : goal.returns-then-cards-n
returns-then-cards-n c = let a = c.args in record { n_value = short_row a.state.now a.cards.now a.n _ _ c.refused-then-cards-n.ensures c.if-state-lt-STATE_SIZE.false c.if-cards-n.true; wake_unchanged = λ e h. refl; wake_says = λ t. absurd (omega (arith, t.cards_room)) }

pub returns : goal.returns
returns c = let a = c.args in
    let e = c.reader_of-x.ensures in
    let z = rw e at c.settle.ensures in
    let m = woken_made a.state.now a.uid.now a.cards.now a.n c.wake-s.result _ _ _ c.if-state-lt-STATE_SIZE.false c.if-cards-n.false in let both = m z.value z.state_after z.state_after_2 z.cards_after z.says _ _ (ap (λ (y : LinkReader). y.reader) e) c.cards_of-field.ensures c.wake-s.ensures.value c.wake-s.ensures.wakens in record { n_value = both.0; wake_unchanged = both.1.0; wake_says = both.1.1 }
