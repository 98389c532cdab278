-- `frame::within::sound_bytes` meets its contract. The loop's invariant: the bytes before k are written and none of them is wrong, so the first
-- wrong byte from k on is the first of all. Assumes nothing.
use Prim.Native.Nat.{◌≤◌, ◌-◌, ◌+◌, ◌*◌}
use mathlib.Core.Path.{◌≡◌}
use lib.ListN.{length, drop}
use Rattle.rows.specs.Rows.{overlay}
use Rattle.frame.specs.Frame.{data_of, bytes_of, first_wrong}
use Rattle.frame.proofs.within.sound_bytes.Given as goal

abbrev pub invariant-loop-k : goal.invariant-loop-k
invariant-loop-k l =
    (l.k ≤ length l.byte-items) × (length l.byte-items ≡ length l.initial.byte-items) × (l.k + first_wrong (l.n - l.k) (drop (0 + 9 * l.k) l.row) ≡ first_wrong l.n l.row) × (l.byte-items ≡ overlay l.initial.byte-items 0 (bytes_of l.k (data_of l.k l.row)))
