-- `delay::frames::is_select` meets its contract: the levels one after the other. Assumes nothing.
use Rattle.std.proofs.Common.{sym, ◌∙◌, true≢false}
use Rattle.delay.specs.Kind.{is_select}
use Rattle.delay.proofs.frames.is_select.Goals as goal
use Rattle.delay.proofs.frames.is_select.Goals.{then-is_select_of, else-is_select_of}

pub returns-then-is_select_of-2 : goal.returns-then-is_select_of-2
unfolding is_select
returns-then-is_select_of-2 c = elim c.if-is_select_of.branch [
  | then-is_select_of w ↦ rw (sym c.is_select_of.ensures ∙ w.if-is_select_of.true) (w.value-is ∙ w.if-is_select_of.true)
  | else-is_select_of w ↦ rw (sym c.is_select_of.ensures ∙ w.if-is_select_of.false, sym w.is_select_of-else-is_select_of.ensures ∙ sym w.value-is ∙ c.if-is_select_of-2.true) c.if-is_select_of-2.true
]

pub returns-else-is_select_of-2 : goal.returns-else-is_select_of-2
unfolding is_select
returns-else-is_select_of-2 c = elim c.if-is_select_of.branch [
  | then-is_select_of w ↦ absurd (true≢false (sym (w.value-is ∙ w.if-is_select_of.true) ∙ c.if-is_select_of-2.false))
  | else-is_select_of w ↦ rw (
    sym c.is_select_of.ensures ∙ w.if-is_select_of.false,
    sym w.is_select_of-else-is_select_of.ensures ∙ sym w.value-is ∙ c.if-is_select_of-2.false,
  ) c.is_select_of-else-is_select_of-2.ensures
]
