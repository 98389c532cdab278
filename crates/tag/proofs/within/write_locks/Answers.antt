-- `tag::within::write_locks` meets its contract: the definition has the same cases. Assumes nothing.
use Rattle.rows.proofs.RowLaws.{overlay_one}
use native.Mathlib.Omega.{arith}
use Rattle.tag.proofs.within.write_locks.Goals as goal

pub bounds-locks-b : goal.bounds-locks-b
bounds-locks-b c = let h = rw c.in-Locks.is at c.requires.0 in omega (arith, h, c.requires.1)

pub returns-in-Locks : goal.returns-in-Locks
returns-in-Locks c = let h = rw c.in-Locks.is at c.requires.0 in rw c.in-Locks.is (overlay_one _ _ 1 (omega (arith, h, c.requires.1)))
