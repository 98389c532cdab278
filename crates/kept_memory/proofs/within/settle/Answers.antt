-- `kept_memory::within::settle` meets its contract, by the laws `stayed` and `moved`. Assumes nothing.
use mathlib.Core.Path.{◌≡◌, sym, ◌∙◌}
use Rattle.kept_reader.specs.KeptReader.{selection_of}
use Rattle.kept_memory.specs.KeptMemory.{path_in}
use Rattle.kept_memory.specs.KeptMemoryLaws.{stayed, moved}
use borrow.Author.Rules.{rules}
use Rattle.kept_memory.proofs.within.settle.Goals.{then-not-stays, else-not-stays}
use Rattle.kept_memory.proofs.within.settle.Goals as goal

pub returns : goal.returns
returns c =
    let a = c.args in
    let e : a.r ≡ selection_of a.state.now = search rules in
    let f : a.p ≡ path_in a.state.now = search rules in
    let s = c.stays.ensures in
    elim c.if-not-stays.branch [
      | then-not-stays w ↦
          (let k = w.keep.ensures in
          let both = moved a.state.now _ a.r a.p a.m e f (sym s.value ∙ w.if-not-stays.true) k.state_after k.state_after_2 in
          record { value = c.selection_number.ensures; state_after = rw w.state-is both.0; state_after_2 = rw w.state-is both.1 })
      | else-not-stays w ↦
          (let both = stayed a.state.now a.r a.p a.m e f s.five_len (sym s.value ∙ w.if-not-stays.false) in
          record { value = c.selection_number.ensures; state_after = rw w.state-is both.0; state_after_2 = rw w.state-is both.1 })
    ]
