-- A piece of bytes in one write. The loop's invariant: the digits of the first i bytes stand as text. Assumes nothing.
use Rattle.std.proofs.Common.{◌≡◌, ◌*◌, length, take}
use Rattle.bench_text.specs.Text.{hex_digits}
use Rattle.bench_text.proofs.write_hex.Given as goal

abbrev pub invariant-loop-i : goal.invariant-loop-i
invariant-loop-i g l = (length l.text ≡ 64) × (take (2 * l.i) l.text ≡ hex_digits (take l.i l.bytes))
