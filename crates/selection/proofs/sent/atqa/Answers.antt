use mathlib.Core.Path.{refl, ap}
use mathlib.Core.List.{[], ◌∷◌}
use lib.ListN.{replicate}
use Rattle.selection.specs.Selection.{atqa}
use Rattle.selection.specs.SentLaws.{made}
use Rattle.selection.proofs.sent.atqa.Goals as goal

pub returns : goal.returns
unfolding atqa
returns c = made _ (replicate 18 0) _ _ refl (ap (λ b. b ∷ 0 ∷ []) c.atqa_byte.ensures) c.put_bytes.ensures
