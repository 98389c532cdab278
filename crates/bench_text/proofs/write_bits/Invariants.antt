-- A piece of a row in one write. The loop's invariant: the first i bits stand as text. Assumes nothing.
use Rattle.std.proofs.Common.{◌≡◌, length, take}
use Rattle.bench_text.specs.Text.{bits_text}
use Rattle.bench_text.proofs.write_bits.Given as goal

abbrev pub invariant-loop-i : goal.invariant-loop-i
invariant-loop-i g l = (length l.text ≡ 64) × (take l.i l.text ≡ bits_text (take l.i l.row))
