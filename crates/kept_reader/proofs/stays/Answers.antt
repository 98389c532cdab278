-- `kept_reader::stays` meets its contract: the answer, and the bytes of the two readers compared. Assumes nothing.
use native.Mathlib.Omega.{arith}
use mathlib.Core.Path.{◌∙◌}
use Rattle.kept.proofs.ByteLaws.{same_is}
use Rattle.kept_reader.specs.StayLaws.{stays_by}
use Rattle.kept_reader.proofs.stays.Goals.{then-answer_refuses, else-answer_refuses}
use Rattle.kept_reader.proofs.stays.Goals as goal

pub returns-then-selection_stays-clause-value : goal.returns-then-selection_stays-clause-value
returns-then-selection_stays-clause-value c = let a = c.args in
    stays_by a.x a.t _ _ _ _ _ _ _ _ (rw (c.if-selection_stays.true.0, c.if-selection_stays.true.1)) c.answer_refuses.ensures (c.eq-selection_stays.ensures ∙ same_is _ _) c.selection_bytes.ensures.value c.selection_bytes-2.ensures.value (c.eq-link_stays.ensures ∙ same_is _ _) c.link_bytes.ensures.value c.link_bytes-2.ensures.value

pub returns-else-selection_stays-clause-value : goal.returns-else-selection_stays-clause-value
returns-else-selection_stays-clause-value c = let a = c.args in
    stays_by a.x a.t _ _ _ _ _ _ _ _ (elim c.if-answer_refuses.branch [ then-answer_refuses w ↦ grind arith | else-answer_refuses w ↦ grind arith ]) c.answer_refuses.ensures (c.eq-selection_stays.ensures ∙ same_is _ _) c.selection_bytes.ensures.value c.selection_bytes-2.ensures.value (c.eq-link_stays.ensures ∙ same_is _ _) c.link_bytes.ensures.value c.link_bytes-2.ensures.value
