use Prim.Native.Nat.{◌*◌}
use mathlib.Core.Path.{refl, sym, ap, ◌∙◌}
use lib.Bits.{bit_xor}
use Rattle.crc.specs.CrcOf.{crc_of}
use Rattle.crc.specs.CrcLaws.{crc_next, crc_done}
use Rattle.frame.specs.Frame.{bytes_of}
use Rattle.frame.specs.ByteLaws.{length_bytes}
use Rattle.frame_v.specs.FrameVLaws.{byte_of, part_clean}
use native.Mathlib.Omega.{arith}
use Rattle.frame_v.proofs.within.row_crc.Goals as goal

pub loop-i-init : goal.loop-i-init
loop-i-init c = (omega arith, refl)

pub byte_at-requires : goal.byte_at-requires
byte_at-requires c = (omega arith, part_clean (8 * c.args.n) (8 * c.loop-i.i) c.args.row.now (omega arith) c.requires.1)

pub loop-i-preserved : goal.loop-i-preserved
loop-i-preserved c = let l = c.loop-i in
    let a = c.args in
    let r = a.row.now in
    let b = c.byte_at.ensures ∙ sym (byte_of a.n r l.i (omega arith)) in
    (omega arith, rw (c.shift_byte-c.ensures, b) (sym (crc_next (bytes_of a.n r) l.i l.c (omega (arith, length_bytes a.n r))) ∙ l.invariant.1))

pub returns : goal.returns
unfolding crc_of
returns c = let l = c.loop-i in
    let a = c.args in
    let r = a.row.now in
    ap (λ x. bit_xor x 0xFFFF) (sym (crc_done (bytes_of a.n r) l.i l.c (omega (arith, length_bytes a.n r))) ∙ l.invariant.1)
