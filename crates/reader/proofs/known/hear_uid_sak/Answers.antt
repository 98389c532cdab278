-- `reader::known::hear_uid_sak` meets its contract, by what was read. Assumes nothing.
use mathlib.Core.Path.{sym, ◌∙◌}
use Rattle.reader.specs.KnownLaws.{uid_sak_at}
use Rattle.reader.proofs.known.hear_uid_sak.Goals as goal

pub returns-in-Ok : goal.returns-in-Ok
returns-in-Ok c = let a = c.args in
    c.uid_sak_heard.ensures ∙ sym (uid_sak_at a.l a.r a.row.now _ (sym c.read_sak.ensures.value ∙ c.in-Ok.is))

pub returns-in-Err : goal.returns-in-Err
returns-in-Err c = let a = c.args in
    c.stop.ensures ∙ sym (uid_sak_at a.l a.r a.row.now _ (sym c.read_sak.ensures.value ∙ c.in-Err.is))
