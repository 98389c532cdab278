-- `sent_v::within::put_parts` meets its contract: one part behind the other, and CRC_B behind them. Assumes nothing.
use mathlib.Core.List.{◌++◌}
use Prim.Native.Nat.{◌+◌}
use lib.ListN.{length}
use Rattle.rows.specs.ListLaws.{bytes_at_law}
use Rattle.frame_b.specs.FrameBLaws.{length_frame}
use Rattle.frame_v.specs.FrameVLaws.{closed, front_clean}
use Rattle.sent_v.specs.SentLaws.{parts_put, parts_length, parts_bytes}
use native.Mathlib.Omega.{arith}
use Rattle.sent_v.proofs.within.put_parts.Goals as goal

pub put_crc-requires : goal.put_crc-requires
put_crc-requires c = let a = c.args.a.now in
    let b = c.args.b.now in
    let d = c.args.d.now in
    let o = parts_put c.args.out.now a b d _ _ _ c.requires c.put_bits.ensures c.put_bits-2.ensures c.put_bits-3.ensures in
    (omega (arith, c.requires), front_clean c.args.out.now (a ++ (b ++ d)) _ (length a + length b + length d) (parts_length a b d) o)

pub returns : goal.returns
returns c = let a = c.args.a.now in
    let b = c.args.b.now in
    let d = c.args.d.now in
    let o = parts_put c.args.out.now a b d _ _ _ c.requires c.put_bits.ensures c.put_bits-2.ensures c.put_bits-3.ensures in record { value = omega (arith, length_frame (a ++ (b ++ d)), parts_length a b d); out_after = closed c.args.out.now (a ++ (b ++ d)) _ _ (length a + length b + length d) (parts_bytes a b d (bytes_at_law a c.shared_slice_known-1.given) (bytes_at_law b c.shared_slice_known-2-1.given) (bytes_at_law d c.shared_slice_known-3-1.given)) (parts_length a b d) c.requires o c.put_crc.ensures }
