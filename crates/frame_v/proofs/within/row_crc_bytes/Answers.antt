-- `frame_v::within::row_crc_bytes` meets its contract: the number's two bytes. Assumes nothing.
use Rattle.crc.specs.CrcOf.{sent_of}
use Rattle.frame_v.proofs.within.row_crc_bytes.Goals as goal

pub returns : goal.returns
unfolding sent_of
returns c = rw c.row_crc-c.ensures
