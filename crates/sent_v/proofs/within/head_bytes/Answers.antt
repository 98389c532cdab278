-- `sent_v::within::head_bytes` meets its contract: flags, code, and the UID behind them. Assumes nothing.
use mathlib.Core.Path.{◌≡◌, ap, ◌∙◌}
use mathlib.Core.List.{◌∷◌}
use lib.ListN.{length}
use Rattle.sent_v.specs.SentLaws.{head_put}
use borrow.Author.Rules.{rules}
use native.Mathlib.Omega.{arith}
use Rattle.sent_v.proofs.within.head_bytes.Goals as goal

pub put-requires : goal.put-requires
put-requires c = let n : length c.args.k.uid ≡ 8 = search rules in omega arith

pub returns : goal.returns
returns c = head_put _ c.args.k.code c.args.k.uid _ (search rules) c.put.ensures ∙ ap (λ f. f ∷ c.args.k.code ∷ c.args.k.uid) c.head_flags.ensures
