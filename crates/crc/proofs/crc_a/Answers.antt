-- `crc::crc_a` meets its contract, by that of `crc_of`: CRC_A starts as 6363 and is not inverted. Assumes nothing.
use mathlib.Core.Path.{◌∙◌}
use Rattle.crc.specs.CrcOfLaws.{of_a}
use Rattle.crc.proofs.crc_a.Goals as goal

pub returns : goal.returns
returns c = c.crc_of.ensures ∙ of_a c.args.bytes.now
