-- `crc::is_good` meets its contract, by that of `is_good_of`: CRC_A starts as 6363 and is not inverted. Assumes nothing.
use mathlib.Core.Path.{◌∙◌}
use Rattle.crc.specs.CrcOfLaws.{good_a}
use Rattle.crc.proofs.is_good.Goals as goal

pub returns : goal.returns
returns c = c.is_good_of.ensures ∙ good_a c.args.bytes.now
