-- `bench_text::put_hex` meets its contract. The loop's invariant: the first i bytes are written. Assumes nothing.
use mathlib.Core.Path.{◌≡◌}
use lib.ListN.{length, take}
use Rattle.bench_text.specs.Text.{Wrote, hex_digits}
use Rattle.bench_text.proofs.put_hex.Given as goal

abbrev pub invariant-loop-byte : goal.invariant-loop-byte
invariant-loop-byte l = (length l.out ≡ length l.initial.out) × Wrote l.initial.out l.at (hex_digits (take l.byte-index l.bytes)) l.p l.out
