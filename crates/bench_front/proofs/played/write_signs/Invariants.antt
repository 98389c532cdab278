-- The signs of a piece in one write. The loop's invariant: what stands there is ASCII. Assumes nothing.
use Rattle.std.proofs.Common.{◌≡◌, length}
use Rattle.std.specs.Str.{IsAscii}
use Rattle.bench_front.proofs.played.write_signs.Given as goal

abbrev pub invariant-loop-i : goal.invariant-loop-i
invariant-loop-i g l = (length l.signs ≡ 64) × IsAscii l.signs
