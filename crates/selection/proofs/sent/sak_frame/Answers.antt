use mathlib.Core.Path.{refl}
use mathlib.Core.List.{[], ◌∷◌}
use lib.ListN.{replicate}
use Rattle.selection.specs.Selection.{sak_frame}
use Rattle.selection.specs.SentLaws.{made, with_crc_law}
use Rattle.selection.proofs.sent.sak_frame.Goals as goal

pub returns : goal.returns
unfolding sak_frame
returns c = made _ (replicate 27 0) _ _ refl (with_crc_law (c.args.sak ∷ []) c.crc_bytes-crc.result c.crc_bytes-crc.ensures) c.put_bytes.ensures
