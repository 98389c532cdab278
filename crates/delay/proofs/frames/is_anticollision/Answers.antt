-- `delay::frames::is_anticollision` meets its contract: the levels one after the other. Assumes nothing.
use Rattle.std.proofs.Common.{sym, ◌∙◌, true≢false}
use Rattle.delay.specs.Kind.{is_anticollision}
use Rattle.delay.proofs.frames.is_anticollision.Goals as goal
use Rattle.delay.proofs.frames.is_anticollision.Goals.{then-is_matching, else-is_matching}

pub returns-then-is_matching-2 : goal.returns-then-is_matching-2
unfolding is_anticollision
returns-then-is_matching-2 c = elim c.if-is_matching.branch [
  | then-is_matching w ↦ rw (sym c.is_matching.ensures ∙ w.if-is_matching.true) (w.value-is ∙ w.if-is_matching.true)
  | else-is_matching w ↦ rw (sym c.is_matching.ensures ∙ w.if-is_matching.false, sym w.is_matching-else-is_matching.ensures ∙ sym w.value-is ∙ c.if-is_matching-2.true) c.if-is_matching-2.true
]

pub returns-else-is_matching-2 : goal.returns-else-is_matching-2
unfolding is_anticollision
returns-else-is_matching-2 c = elim c.if-is_matching.branch [
  | then-is_matching w ↦ absurd (true≢false (sym (w.value-is ∙ w.if-is_matching.true) ∙ c.if-is_matching-2.false))
  | else-is_matching w ↦ rw (
    sym c.is_matching.ensures ∙ w.if-is_matching.false,
    sym w.is_matching-else-is_matching.ensures ∙ sym w.value-is ∙ c.if-is_matching-2.false,
  ) c.is_matching-else-is_matching-2.ensures
]
