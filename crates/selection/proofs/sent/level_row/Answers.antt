use mathlib.Core.Path.{◌≡◌, refl}
use lib.ListN.{length, replicate}
use Rattle.selection.specs.SentLaws.{made}
use borrow.Author.Rules.{rules}
use Rattle.selection.proofs.sent.level_row.Goals as goal

pub returns : goal.returns
returns c = let n : length c.args.five ≡ 5 = search rules in made _ (replicate 45 0) _ _ (rw n) refl c.put_bytes.ensures
