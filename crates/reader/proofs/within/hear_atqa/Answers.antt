use mathlib.Core.Path.{sym, ap, ◌∙◌}
use Rattle.uid.specs.declared.Level.TheVariants.{One}
use Rattle.reader.specs.Reader.{hear_atqa, turn, opens}
use Rattle.reader.specs.StepLaws.{atqa_at}
use Rattle.reader.specs.declared.Answer.TheVariants.{Finishes}
use Rattle.reader.proofs.within.hear_atqa.Goals as goal

pub returns-then-is_over : goal.returns-then-is_over
unfolding hear_atqa
returns-then-is_over c = rw (sym c.is_over.ensures ∙ c.if-is_over.true) (ap (λ r. turn r Finishes) c.blank.ensures)

pub returns-in-Ok : goal.returns-in-Ok
returns-in-Ok c = let a = c.args in
    c.opens.ensures ∙ ap (opens One a.r.sweeps) c.no_uid.ensures
    ∙ sym (atqa_at a.r a.row.now _ (sym c.is_over.ensures ∙ c.if-is_over.false) (sym c.read_atqa.ensures.value ∙ c.in-Ok.is))

pub returns-in-Err : goal.returns-in-Err
returns-in-Err c = let a = c.args in
    c.stop.ensures ∙ sym (atqa_at a.r a.row.now _ (sym c.is_over.ensures ∙ c.if-is_over.false) (sym c.read_atqa.ensures.value ∙ c.in-Err.is))
