-- `frame_v::within::put_crc` meets its contract: it is made of calls that do. Assumes nothing.
use Rattle.frame_v.proofs.within.put_crc.Goals as goal

pub returns : goal.returns
returns c = rw (c.put_bits.ensures, c.row_crc_bytes-k.ensures)
