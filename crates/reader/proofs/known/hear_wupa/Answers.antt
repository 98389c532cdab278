-- `reader::known::hear_wupa` meets its contract, by what was read. Assumes nothing.
use mathlib.Core.Path.{sym, ◌∙◌}
use Rattle.reader.specs.KnownLaws.{wupa_at}
use Rattle.reader.proofs.known.hear_wupa.Goals as goal

pub returns-in-Ok : goal.returns-in-Ok
returns-in-Ok c = let a = c.args in
    c.picks.ensures ∙ sym (wupa_at a.r a.row.now _ (sym c.read_atqa.ensures.value ∙ c.in-Ok.is))

pub returns-in-Err : goal.returns-in-Err
returns-in-Err c = let a = c.args in
    c.stop.ensures ∙ sym (wupa_at a.r a.row.now _ (sym c.read_atqa.ensures.value ∙ c.in-Err.is))
