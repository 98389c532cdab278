use Prim.Native.Nat.{◌≤◌, ◌-◌}
use mathlib.Core.Path.{◌≡◌}
use mathlib.Core.Bool.{true}
use lib.ListN.{length, take}
use Rattle.rows.specs.Rows.{overlay, clean}
use Rattle.frame.specs.Frame.{bytes_of}
use Rattle.selection.proofs.level.five_bytes.Given as goal

abbrev pub invariant-loop-i : goal.invariant-loop-i
invariant-loop-i l = (l.i ≤ 5) × (length l.byte-items ≡ 5) × (length l.e ≡ 40) × (clean l.e ≡ true) × (l.byte-items ≡ overlay l.initial.byte-items 0 (take l.i (bytes_of 5 l.e))) × (length l.initial.byte-items ≡ 5)

abbrev pub decreases-loop-i : goal.decreases-loop-i
decreases-loop-i l = 5 - l.i
