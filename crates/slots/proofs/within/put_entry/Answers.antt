-- `slots::within::put_entry` meets its contract. Assumes nothing.
use mathlib.Core.Path.{◌≡◌}
use native.Mathlib.Omega.{arith}
use lib.ListN.{length}
use Rattle.slots.specs.StepLaws.{entry_put}
use borrow.Author.Rules.{rules}
use Rattle.slots.proofs.within.put_entry.Goals as goal

pub returns : goal.returns
returns c = let a = c.args in
    let l : length a.atqb ≡ 12 = search rules in
    rw (c.put-2.ensures, c.put.ensures, c.held_number.ensures) (entry_put a.list.now a.at a.k a.atqb (omega arith))
