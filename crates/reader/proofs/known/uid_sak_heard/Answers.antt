-- `reader::known::uid_sak_heard` meets its contract: the definition has the same tests. Assumes nothing.
use mathlib.Core.Path.{sym, ◌∙◌}
use Rattle.reader.specs.KnownLaws.{sak_misfits}
use Rattle.reader.proofs.known.uid_sak_heard.Goals as goal

pub returns-then-misfits : goal.returns-then-misfits
returns-then-misfits c = let a = c.args in
    c.stop.ensures ∙ sym (sak_misfits a.l a.u a.b (sym c.misfits.ensures ∙ c.if-misfits.true))
