-- `bench_text::put_bits` meets its contract. The loop's invariant: the first i bits are written. Assumes nothing.
use mathlib.Core.Path.{◌≡◌}
use lib.ListN.{length, take}
use Rattle.bench_text.specs.Text.{Wrote, bits_text}
use Rattle.bench_text.proofs.put_bits.Given as goal

abbrev pub invariant-loop-bit : goal.invariant-loop-bit
invariant-loop-bit l = (length l.out ≡ length l.initial.out) × Wrote l.initial.out l.at (bits_text (take l.bit-index l.row)) l.p l.out
