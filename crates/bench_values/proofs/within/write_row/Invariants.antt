-- `bench_values::within::write_row` meets its contract. The loop's invariant: the first i bits are written. Assumes nothing.
use mathlib.Core.Path.{◌≡◌}
use lib.ListN.{length, take}
use Rattle.rows.specs.Rows.{overlay}
use Rattle.bench_values.specs.Values.{row_bits}
use Rattle.bench_values.proofs.within.write_row.Given as goal

abbrev pub invariant-loop-i : goal.invariant-loop-i
invariant-loop-i l = (length l.out ≡ length l.initial.out) × (l.out ≡ overlay l.initial.out 0 (take l.i (row_bits l.word)))
