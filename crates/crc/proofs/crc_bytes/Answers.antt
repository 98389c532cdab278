-- `crc::crc_bytes` meets its contract, by that of `sent_of`: CRC_A starts as 6363 and is not inverted. Assumes nothing.
use mathlib.Core.Path.{◌∙◌}
use Rattle.crc.specs.CrcOfLaws.{sent_a}
use Rattle.crc.proofs.crc_bytes.Goals as goal

pub returns : goal.returns
returns c = c.sent_of.ensures ∙ sent_a c.args.bytes.now
