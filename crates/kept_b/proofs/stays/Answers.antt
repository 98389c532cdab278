-- `kept_b::stays` meets its contract: the answer, and the bytes of the two readers compared. Assumes nothing.
use mathlib.Core.Path.{sym, ◌∙◌}
use Rattle.kept.proofs.ByteLaws.{same_is}
use Rattle.kept_b.specs.KeptReaderBLaws.{stays_by}
use Rattle.kept_b.proofs.stays.Goals as goal

pub returns-then-answer_refuses : goal.returns-then-answer_refuses
returns-then-answer_refuses c = let a = c.args in
    stays_by a.x a.t _ _ _ (sym c.answer_refuses.ensures ∙ c.if-answer_refuses.true) (c.eq.ensures ∙ same_is _ _) c.reader_bytes.ensures c.reader_bytes-then-answer_refuses.ensures
