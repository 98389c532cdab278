use mathlib.Core.Path.{refl}
use mathlib.Core.List.{[], ◌∷◌}
use lib.ListN.{replicate}
use Rattle.selection.specs.SentLaws.{made, with_crc_law}
use Rattle.selection.proofs.within.two_bytes.Goals as goal

pub returns : goal.returns
returns c = made _ (replicate 36 0) _ _ refl (with_crc_law (c.args.a ∷ c.args.b ∷ []) c.crc_bytes-crc.result c.crc_bytes-crc.ensures) c.put_bytes.ensures
