use mathlib.Core.Path.{ap}
use Rattle.reader.specs.StepLaws.{longer_made}
use Prim.Native.Nat.{◌*◌}
use borrow.Author.Rules.{rules}
use Rattle.reader.proofs.within.longer.Goals as goal

pub returns : goal.returns
returns c = let a = c.args in longer_made a.z a.l a.r a.n _ _ _ (search rules) (search rules) (search rules) (ap (λ k. 3 * k) c.place-at.ensures) c.put.ensures c.put-2.ensures
