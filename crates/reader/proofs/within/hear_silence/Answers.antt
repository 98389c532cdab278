use mathlib.Core.Path.{sym, ap, ◌∙◌}
use Rattle.selection.specs.RestLaws.{nil_yes, nil_no}
use Rattle.reader.specs.Reader.{sends}
use Rattle.reader.specs.StepLaws.{silence_yes, silence_no}
use Rattle.reader.proofs.within.hear_silence.Goals as goal

pub returns-then-row-eq0 : goal.returns-then-row-eq0
returns-then-row-eq0 c = c.sends.ensures ∙ ap sends c.blank.ensures ∙ sym (silence_yes _ (nil_yes _ c.if-row-eq0.true))

pub returns : goal.returns
returns c = c.stop.ensures ∙ sym (silence_no _ (nil_no _ c.if-row-eq0.false))
