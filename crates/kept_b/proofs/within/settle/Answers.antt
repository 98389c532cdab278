-- `kept_b::within::settle` meets its contract, by the laws `stayed` and `moved`. Assumes nothing.
use mathlib.Core.Path.{◌≡◌, sym, ◌∙◌}
use Rattle.kept_b.specs.KeptReaderB.{reader_in}
use Rattle.kept_b.specs.KeptReaderBLaws.{stayed, moved}
use borrow.Author.Rules.{rules}
use Rattle.kept_b.proofs.within.settle.Goals.{then-not-stays, else-not-stays}
use Rattle.kept_b.proofs.within.settle.Goals as goal

pub returns : goal.returns
returns c =
    let a = c.args in
    let e : a.x ≡ reader_in a.state.now = search rules in
    elim c.if-not-stays.branch [
      | then-not-stays w ↦
          (let k = w.keep.ensures in
          let both = moved a.state.now _ a.x a.t e (sym c.stays.ensures ∙ w.if-not-stays.true) k.state_after k.state_after_2 in
          record { value = c.answer_number.ensures; state_after = rw w.state-is both.0; state_after_2 = rw w.state-is both.1 })
      | else-not-stays w ↦
          (let both = stayed a.state.now a.x a.t e (sym c.stays.ensures ∙ w.if-not-stays.false) in
          record { value = c.answer_number.ensures; state_after = rw w.state-is both.0; state_after_2 = rw w.state-is both.1 })
    ]
