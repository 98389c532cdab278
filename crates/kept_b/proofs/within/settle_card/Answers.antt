-- `kept_b::within::settle_card` meets its contract, by the laws `stayed` and `moved`. Assumes nothing.
use mathlib.Core.Path.{◌≡◌, sym, ◌∙◌}
use mathlib.Core.Bool.{true}
use Rattle.kept_b.specs.KeptCardB.{taken_refuses, card_in}
use Rattle.kept_b.specs.KeptCardBLaws.{stayed, moved}
use borrow.Author.Rules.{rules}
use Rattle.kept_b.proofs.within.settle_card.Goals.{then-not-taken_refuses, else-not-taken_refuses}
use Rattle.kept_b.proofs.within.settle_card.Goals as goal

pub returns : goal.returns
returns c =
    let a = c.args in
    let e : taken_refuses a.t.answer ≡ true → a.t.card ≡ card_in a.state.now = search rules in
    elim c.if-not-taken_refuses.branch [
      | then-not-taken_refuses w ↦
          (let k = w.keep_card.ensures in
          let both = moved a.state.now _ a.t (sym c.taken_refuses.ensures ∙ w.if-not-taken_refuses.true) k.state_after k.state_after_2 in
          record { value = c.taken_number.ensures; state_after = rw w.state-is both.0; state_after_2 = rw w.state-is both.1 })
      | else-not-taken_refuses w ↦
          (let both = stayed a.state.now a.t (sym c.taken_refuses.ensures ∙ w.if-not-taken_refuses.false) (e (sym c.taken_refuses.ensures ∙ w.if-not-taken_refuses.false)) in
          record { value = c.taken_number.ensures; state_after = rw w.state-is both.0; state_after_2 = rw w.state-is both.1 })
    ]
