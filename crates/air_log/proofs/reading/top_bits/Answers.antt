-- `air_log::reading::top_bits` meets its contract: a byte's bits in air order, the other way round. Assumes nothing.
use Rattle.std.proofs.Common.{refl}
use Rattle.parity.specs.Bits.{bits_of}
use Rattle.air_log.specs.Reading.{top_bits}
use Rattle.air_log.proofs.reading.top_bits.Goals as goal

pub returns : goal.returns
unfolding top_bits bits_of
returns c = rw (c.reverse.ensures.after, c.bits_of-bits.ensures) refl
