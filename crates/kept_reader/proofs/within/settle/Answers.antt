-- `kept_reader::within::settle` meets its contract, by the laws `stayed` and `moved`. Assumes nothing.
use mathlib.Core.Path.{◌≡◌, sym, ◌∙◌}
use Rattle.kept_reader.specs.KeptReader.{reader_of, turn_left, kept_in, kept_after}
use Rattle.kept_reader.specs.StayLaws.{stayed, moved}
use borrow.Author.Rules.{rules}
use Rattle.kept_reader.proofs.within.settle.Goals.{then-not-stays, else-not-stays}
use Rattle.kept_reader.proofs.within.settle.Goals as goal

pub returns : goal.returns
returns c =
    let a = c.args in
    let e : a.x ≡ reader_of a.state.now = search rules in
    let s = c.stays.ensures in
    elim c.if-not-stays.branch [
      | then-not-stays w ↦
          (let k = w.keep.ensures in
          let both = moved a.state.now _ a.x a.t e (sym s.value ∙ w.if-not-stays.true) k.state_after k.state_after_2 in
          record { value = c.answer_number.ensures; state_after = rw w.state-is both.0; state_after_2 = rw w.state-is both.1 })
      | else-not-stays w ↦
          (let both = stayed a.state.now a.x a.t e s.fits.0 s.fits.1 (sym s.value ∙ w.if-not-stays.false) in
          record { value = c.answer_number.ensures; state_after = rw w.state-is both.0; state_after_2 = rw w.state-is both.1 })
    ]
