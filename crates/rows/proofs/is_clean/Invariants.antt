-- `rows::is_clean` meets its contract. The loop's invariant: the row is clean exactly where neither the largest element so far is over 1 nor
-- one that is left is. Assumes nothing.
use Prim.Native.Nat.{◌≤◌}
use mathlib.Core.Path.{◌≡◌}
use mathlib.Core.Bool.{false, cond}
use lib.Dec.{ltb}
use lib.ListN.{length, drop}
use Rattle.rows.specs.Rows.{clean}
use Rattle.rows.proofs.is_clean.Given as goal

abbrev pub invariant-loop-x : goal.invariant-loop-x
invariant-loop-x l = (l.x-index ≤ length l.row) × (cond (ltb 1 l.most) false (clean (drop l.x-index l.row)) ≡ clean l.row)
