-- `answer_v::within::answer_in` meets its contract: its first two bytes stand in the row. Assumes nothing.
use Rattle.std.proofs.Common.{arith}
use Rattle.rows.specs.HeardLaws.{clean_take, clean_drop}
use Rattle.answer_v.proofs.within.answer_in.Goals as goal

pub byte_at-flags-requires : goal.byte_at-flags-requires
byte_at-flags-requires c = (omega (arith, c.requires.1), clean_take 8 _ c.requires.2)

pub byte_at-code-requires : goal.byte_at-code-requires
byte_at-code-requires c = (omega (arith, c.requires.1), clean_take 8 _ (clean_drop 8 _ c.requires.2))
