-- `frame_b::within::put_frame` meets its contract: the bytes' bits, and behind them those of CRC_B. Assumes nothing.
use native.Mathlib.Omega.{arith}
use Rattle.frame_b.specs.LoopBLaws.{bits_crc}
use Rattle.frame_b.proofs.within.put_frame.Goals as goal

pub returns : goal.returns
returns c = let a = c.args in
    rw (c.put_bits-2.ensures, c.put_bits.ensures) (bits_crc a.out.now a.bytes.now _ c.crc_bytes_b-k.ensures (omega arith))
