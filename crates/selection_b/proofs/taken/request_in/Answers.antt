-- `selection_b::taken::request_in` meets its contract: the definition has the same tests. Assumes nothing.
use Rattle.std.proofs.Common.{arith}
use Rattle.rows.specs.HeardLaws.{clean_take, clean_drop}
use Rattle.selection_b.proofs.taken.request_in.Goals as goal

pub byte_at-afi-requires : goal.byte_at-afi-requires
byte_at-afi-requires c = (omega (arith, c.requires.0), clean_take 8 _ (clean_drop 8 _ c.requires.1))

pub byte_at-m-requires : goal.byte_at-m-requires
byte_at-m-requires c = (omega (arith, c.requires.0), clean_take 8 _ (clean_drop 16 _ c.requires.1))
