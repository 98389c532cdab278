-- `bench_values::within::write_hex` meets its contract. The loop's invariant: the first i bytes are written. Assumes nothing.
use Prim.Native.Nat.{◌≤◌, ◌-◌, ◌/◌}
use mathlib.Core.Path.{◌≡◌}
use lib.ListN.{length, take}
use Rattle.rows.specs.Rows.{overlay}
use Rattle.bench_values.specs.Values.{hex_bytes}
use Rattle.bench_values.proofs.within.write_hex.Given as goal

abbrev pub invariant-loop-i : goal.invariant-loop-i
invariant-loop-i l = (l.i ≤ length l.byte-items) × (length l.byte-items ≡ length l.word / 2) × (l.byte-items ≡ overlay l.initial.byte-items 0 (take l.i (hex_bytes l.word)))
