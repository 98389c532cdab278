-- `kept_card::within::settle` meets its contract, by the laws `stayed` and `moved`. Assumes nothing.
use mathlib.Core.Path.{◌≡◌, sym, ◌∙◌}
use mathlib.Core.Bool.{true}
use Rattle.kept.specs.Kept.{told_refuses}
use Rattle.kept_card.specs.KeptWhole.{link_card_of}
use Rattle.kept_card.proofs.KeptWholeLaws.{stayed, moved}
use borrow.Author.Rules.{rules}
use Rattle.kept_card.proofs.within.settle.Goals.{then-not-told_refuses, else-not-told_refuses}
use Rattle.kept_card.proofs.within.settle.Goals as goal

pub returns : goal.returns
returns c =
    let a = c.args in
    let e : told_refuses a.t.told ≡ true → a.t.card ≡ link_card_of a.state.now = search rules in
    elim c.if-not-told_refuses.branch [
      | then-not-told_refuses w ↦
          (let k = w.keep.ensures in
          let both = moved a.state.now _ a.t (sym c.told_refuses.ensures ∙ w.if-not-told_refuses.true) k.state_after k.state_after_2 in
          record { value = c.told_number.ensures; state_after = rw w.state-is both.0; state_after_2 = rw w.state-is both.1 })
      | else-not-told_refuses w ↦
          (let r = sym c.told_refuses.ensures ∙ w.if-not-told_refuses.false in
          let both = stayed a.state.now a.t r (e r) in
          record { value = c.told_number.ensures; state_after = rw w.state-is both.0; state_after_2 = rw w.state-is both.1 })
    ]
