-- `kept_memory::stays` meets its contract: the answer, and the bytes of both readers and of both paths compared. Assumes nothing.
use mathlib.Core.Path.{◌∙◌}
use native.Mathlib.Omega.{arith}
use Rattle.kept.proofs.ByteLaws.{same_is}
use Rattle.kept_memory.specs.KeptMemoryLaws.{stays_by}
use Rattle.kept_memory.proofs.stays.Goals.{then-selection_refuses, else-selection_refuses}
use Rattle.kept_memory.proofs.stays.Goals as goal

pub returns-then-reader_stays-clause-value : goal.returns-then-reader_stays-clause-value
returns-then-reader_stays-clause-value c = let a = c.args in
    stays_by a.r a.p a.m _ _ _ _ _ _ _ _ (rw (c.if-reader_stays.true.0, c.if-reader_stays.true.1)) c.selection_refuses.ensures (c.eq-reader_stays.ensures ∙ same_is _ _) c.selection_bytes-reader_was.ensures.value c.selection_bytes.ensures.value (c.eq-path_stays.ensures ∙ same_is _ _) c.path_bytes.ensures.value c.path_bytes-2.ensures.value

pub returns-else-reader_stays-clause-value : goal.returns-else-reader_stays-clause-value
returns-else-reader_stays-clause-value c = let a = c.args in
    stays_by a.r a.p a.m _ _ _ _ _ _ _ _ (elim c.if-selection_refuses.branch [ then-selection_refuses w ↦ grind arith | else-selection_refuses w ↦ grind arith ]) c.selection_refuses.ensures (c.eq-reader_stays.ensures ∙ same_is _ _) c.selection_bytes-reader_was.ensures.value c.selection_bytes.ensures.value (c.eq-path_stays.ensures ∙ same_is _ _) c.path_bytes.ensures.value c.path_bytes-2.ensures.value
