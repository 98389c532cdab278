use mathlib.Core.Path.{◌≡◌, refl, ap, ◌∙◌}
use mathlib.Core.List.{◌∷◌}
use lib.ListN.{length, replicate}
use Rattle.crc.specs.Crc.{with_crc}
use Rattle.frame.specs.Frame.{standard}
use Rattle.selection.specs.Selection.{sel, select}
use Rattle.selection.specs.SentLaws.{made_two, with_crc_whole, five_list, crc_two}
use borrow.Author.Rules.{rules}
use Rattle.selection.proofs.sent.select.Goals as goal

pub returns : goal.returns
unfolding select
returns c = let n : length c.args.five ≡ 5 = search rules in
    made_two _ _ (replicate 81 0) _ _ 63 (rw c.crc_bytes-crc.ensures (crc_two _)) refl c.put_bytes.ensures c.put_bytes-2.ensures
    ∙ ap standard (with_crc_whole _ _ c.crc_bytes-crc.ensures)
    ∙ rw c.sel-s.ensures (ap (λ f. standard (with_crc (sel c.args.l ∷ 0x70 ∷ f))) (five_list c.args.five n))
