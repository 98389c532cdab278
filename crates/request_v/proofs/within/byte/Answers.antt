-- `request_v::within::byte` meets its contract. Assumes nothing.
use Prim.Native.Nat.{◌*◌}
use Rattle.rows.specs.HeardLaws.{clean_take, clean_drop}
use native.Mathlib.Omega.{arith}
use Rattle.request_v.proofs.within.byte.Goals as goal

pub byte_at-requires : goal.byte_at-requires
byte_at-requires c = (omega arith, clean_take 8 _ (clean_drop (8 * c.args.i) _ c.requires.1))
