use mathlib.Core.Path.{sym, ◌∙◌}
use Rattle.reader.specs.StepLaws.{sak_at}
use Rattle.reader.proofs.within.hear_sak.Goals as goal

-- src/within.rt:330:1
pub returns-in-Ok : goal.returns-in-Ok
returns-in-Ok c = let a = c.args in c.sak_heard.ensures ∙ sym (sak_at a.l a.r a.row.now _ (sym c.read_sak.ensures.value ∙ c.in-Ok.is))

-- src/within.rt:330:1
pub returns-in-Err : goal.returns-in-Err
returns-in-Err c = let a = c.args in c.stop.ensures ∙ sym (sak_at a.l a.r a.row.now _ (sym c.read_sak.ensures.value ∙ c.in-Err.is))
