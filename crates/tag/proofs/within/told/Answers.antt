-- `tag::within::told` meets its contract: 00, DSFID and the UID behind them. Assumes nothing.
use lib.ListN.{length}
use mathlib.Core.Path.{◌≡◌}
use Rattle.tag.specs.MemoryLaws.{told_put}
use borrow.Author.Rules.{rules}
use native.Mathlib.Omega.{arith}
use Rattle.tag.proofs.within.told.Goals as goal

pub put-requires : goal.put-requires
put-requires c = let n : length c.args.t.uid ≡ 8 = search rules in omega arith

pub returns : goal.returns
returns c = told_put c.args.t.dsfid c.args.t.uid _ (search rules) c.put.ensures
