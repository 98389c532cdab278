-- `lacrivosum::inquiries::lac_b_inquire` meets its contract, by the laws `refused_short` and `inquiry_made`. Assumes nothing.
use mathlib.Core.Path.{refl, sym, ◌∙◌}
use mathlib.Core.Bool.{false≢true}
use native.Mathlib.Omega.{arith}
use Rattle.lacrivosum.specs.Inquiries.{inquiry_done, asked}
use Rattle.lacrivosum.specs.InquiryLaws.{no_state, no_row, refused_short, inquiry_made}
use Rattle.lacrivosum.proofs.inquiries.lac_b_inquire.Goals as goal

pub returns-then-state-lt-STATE_SIZE : goal.returns-then-state-lt-STATE_SIZE
returns-then-state-lt-STATE_SIZE c = let a = c.args in
    let q = asked a.wake a.n a.afi a.numbers.now in
    let b = inquiry_done 0 a.state.now a.cards.now a.list.now in
    let h = no_state q b c.if-state-lt-STATE_SIZE.true in record { list_value = refused_short q b _ _ c.refused.ensures h; inquiry_unchanged = λ e k. refl; inquiry_kept = λ k. absurd (false≢true (sym k ∙ h)); inquiry_says = λ t. absurd (omega (arith, t.state_room)) }

pub returns-then-cards-numbers : goal.returns-then-cards-numbers
returns-then-cards-numbers c = let a = c.args in
    let q = asked a.wake a.n a.afi a.numbers.now in
    let b = inquiry_done 0 a.state.now a.cards.now a.list.now in
    let h = no_row q b c.if-state-lt-STATE_SIZE.false c.if-cards-numbers.true in record { list_value = refused_short q b _ _ c.refused-then-cards-numbers.ensures h; inquiry_unchanged = λ e k. refl; inquiry_kept = λ k. absurd (false≢true (sym k ∙ h)); inquiry_says = λ t. absurd (omega (arith, t.cards_room)) }

pub returns : goal.returns
returns c = let a = c.args in
    let q = asked a.wake a.n a.afi a.numbers.now in
    let e = c.reader_of-x.ensures in
    let z = rw e at c.settle.ensures in
    let m = inquiry_made q a.state.now a.cards.now a.list.now c.inquire-s.result _ _ _ _ c.if-state-lt-STATE_SIZE.false c.if-cards-numbers.false in let both = m z.value z.state_after z.state_after_2 z.cards_after z.says _ _ _ e c.speaks-wakes.ensures c.cards_of-field.ensures c.inquire-s.ensures.list_after c.inquire-s.ensures.inquires in record { list_value = both.0; inquiry_unchanged = both.1.0; inquiry_kept = both.1.1.0; inquiry_says = both.1.1.1 }
