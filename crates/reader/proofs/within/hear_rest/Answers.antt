use mathlib.Core.Path.{sym, ap, ◌∙◌}
use Rattle.reader.specs.Reader.{sends}
use Rattle.reader.specs.StepLaws.{rest_at}
use Rattle.reader.proofs.within.hear_rest.Goals as goal

pub returns-in-Whole : goal.returns-in-Whole
returns-in-Whole c = let a = c.args in c.sends.ensures ∙ ap sends c.knows.ensures ∙ sym (rest_at a.l a.r a.row.now _ _ c.read_rest-x.ensures.value c.in-Whole.is)

pub returns-in-Collided : goal.returns-in-Collided
returns-in-Collided c = let a = c.args in c.sends-in-Collided.ensures ∙ ap sends c.knows-in-Collided.ensures ∙ sym (rest_at a.l a.r a.row.now _ _ c.read_rest-x.ensures.value c.in-Collided.is)

pub returns-in-NotRest : goal.returns-in-NotRest
returns-in-NotRest c = let a = c.args in c.stop.ensures ∙ sym (rest_at a.l a.r a.row.now _ _ c.read_rest-x.ensures.value c.in-NotRest.is)
