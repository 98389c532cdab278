use mathlib.Core.Path.{sym}
use Rattle.parity.specs.Bits.{bits_of}
use Rattle.frame.specs.Frame.{short}
use Rattle.frame.proofs.SaysLaws.{short_has_room}
use Rattle.frame.proofs.write_short.Goals as goal

-- `frame::write_short` meets its contract, by those of `bits_of` and `put`. Assumes nothing.
pub returns : goal.returns
unfolding short bits_of
returns c = record { result_value = sym (short_has_room _ c.if-out-lt7.false); out_after = rw (c.put.ensures, c.bits_of-d.ensures) }
