-- `frame_v::within::shift_byte` meets its contract. The loop's invariant: the bits that are left lead from x to the answer. Assumes nothing.
use Rattle.std.proofs.Common.{◌≡◌, ◌-◌}
use Rattle.crc.specs.Crc.{shifts, crc_byte}
use Rattle.frame_v.proofs.within.shift_byte.Given as goal

abbrev pub invariant-loop : goal.invariant-loop
invariant-loop l = shifts (8 - l.counter) l.x ≡ crc_byte l.c l.b
