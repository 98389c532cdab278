-- `frame::write_crc` meets its contract, by those of `crc_bytes` and `put_bytes`: 1 exactly where the row has no room. Assumes nothing.
use mathlib.Core.Path.{sym}
use native.Mathlib.Omega.{arith}
use lib.ListN.{length}
use Rattle.frame.proofs.LoopLaws.{standard_crc}
use Rattle.frame.proofs.SaysLaws.{has_room}
use Rattle.frame.proofs.write_crc.Goals as goal

pub returns : goal.returns
returns c = let a = c.args in record {
  result_value = sym (has_room 2 (length a.out.now) (length a.bytes.now) (omega arith));
  out_after = rw (c.put_bytes-2.ensures, c.put_bytes.ensures)
      (standard_crc a.out.now a.bytes.now _ c.crc_bytes-k.ensures (omega arith));
}
