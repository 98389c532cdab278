-- `wake::within::starts` meets its contract, by that of `wakes`. Assumes nothing.
use Rattle.rows.specs.ListLaws.{bytes_at_law}
use Rattle.wake.specs.Steps.{started}
use borrow.Author.Rules.{rules}
use Rattle.wake.proofs.within.starts.Goals as goal

pub returns : goal.returns
unfolding started
returns c = let u = c.args.u in record { value = rw c.wakes-t.ensures; typed = record { ten = search rules; bytes = bytes_at_law u.bytes (λ i. search rules) } }
