-- `frame_v::within::is_good` meets its contract: the last two bytes against those that are due. Assumes nothing.
use Prim.Native.Nat.{◌+◌, ◌*◌, ◌-◌, ◌/◌}
use Rattle.std.proofs.Common.{◌≡◌, refl, [], ◌∷◌}
use Rattle.rows.specs.Rows.{same}
use lib.ListN.{length}
use Rattle.rows.specs.HeardLaws.{clean_take, clean_drop}
use Rattle.frame_v.specs.FrameVLaws.{last_good, same_eq}
use native.Mathlib.Omega.{arith}
use Rattle.frame_v.proofs.within.is_good.Goals as goal

pub row_crc_bytes-due-requires : goal.row_crc_bytes-due-requires
row_crc_bytes-due-requires c = (omega (arith, c.requires.0), clean_take (8 * (length c.args.row.now / 8 - 2)) _ c.requires.2)

pub byte_at-low-requires : goal.byte_at-low-requires
byte_at-low-requires c = (omega (arith, c.requires.0), clean_take 8 _ (clean_drop (8 * (length c.args.row.now / 8 - 2)) _ c.requires.2))

pub byte_at-high-requires : goal.byte_at-high-requires
byte_at-high-requires c = (omega (arith, c.requires.0), clean_take 8 _ (clean_drop (8 * (length c.args.row.now / 8 - 2) + 8) _ c.requires.2))

pub returns : goal.returns
returns c =
    let f = c.args.row.now in
    let e : c.eq.result ≡ same (c.byte_at-low.result ∷ c.byte_at-high.result ∷ []) c.row_crc_bytes-due.result = same_eq _ _ _ c.eq.ensures in
    rw (e, c.byte_at-low.ensures, c.byte_at-high.ensures) (last_good f _ (length f / 8 - 2) refl c.requires.1 c.row_crc_bytes-due.ensures)
