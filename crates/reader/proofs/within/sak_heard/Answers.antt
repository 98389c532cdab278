use mathlib.Core.Path.{sym, ◌∙◌}
use Rattle.reader.specs.StepLaws.{sak_contradicts}
use Rattle.reader.proofs.within.sak_heard.Goals as goal

-- src/within.rt:322:9
pub returns-then-contradicts : goal.returns-then-contradicts
returns-then-contradicts c = let a = c.args in c.stop.ensures ∙ sym (sak_contradicts a.l a.r a.b (sym c.contradicts.ensures ∙ c.if-contradicts.true))

-- src/within.rt:325:9
-- src/within.rt:316:1
