-- `frame::air_byte` meets its contract, by those of `bits_of` and `odd_parity`. Assumes nothing.
use Rattle.parity.specs.Bits.{bits_of}
use Rattle.frame.specs.Frame.{air_byte}
use Rattle.frame.proofs.air_byte.Goals as goal

pub returns : goal.returns
unfolding air_byte bits_of
returns c = rw (c.odd_parity-p.ensures, c.bits_of-d.ensures)
