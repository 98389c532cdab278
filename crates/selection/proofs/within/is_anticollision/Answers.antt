use Rattle.rows.specs.Rows.{same}
use Rattle.selection.specs.Selection.{anticollision}
use mathlib.Core.Path.{◌≡◌, sym, ap, ◌∙◌}
use lib.ListN.{length}
use Rattle.rows.proofs.RowLaws.{overlay_front}
use Rattle.selection.specs.SentLaws.{anti_length}
use borrow.Author.Rules.{rules}
use Rattle.selection.proofs.within.is_anticollision.Goals as goal

pub returns : goal.returns
returns c = let a = c.args in
    let n : c.anticollision_bits-n.result ≡ length (anticollision a.l a.k a.five) = c.anticollision_bits-n.ensures ∙ sym (anti_length a.l a.k a.five (search rules)) in
    c.is_same.ensures ∙ ap (same a.row.now) (rw (c.put_anticollision.ensures, n) (overlay_front _ (anticollision a.l a.k a.five)))
