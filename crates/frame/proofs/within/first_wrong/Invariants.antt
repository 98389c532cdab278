use Prim.Native.Nat.{◌≤◌, ◌-◌, ◌+◌, ◌*◌}
use mathlib.Core.Path.{◌≡◌}
use lib.ListN.{drop}
use Rattle.frame.specs.Frame.{first_wrong}
use Rattle.frame.proofs.within.first_wrong.Given as goal

-- `frame::within::first_wrong` meets its contract. The loop's invariant: the first wrong byte from i on is the first of all.
-- Assumes nothing.
abbrev pub invariant-loop-i : goal.invariant-loop-i
invariant-loop-i l = (l.i ≤ l.n) × (l.i + first_wrong (l.n - l.i) (drop (l.at + 9 * l.i) l.row) ≡ first_wrong l.n (drop l.at l.row))

abbrev pub decreases-loop-i : goal.decreases-loop-i
decreases-loop-i l = l.n - l.i
