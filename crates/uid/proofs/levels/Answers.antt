-- `uid::levels` meets its contract, size by size: three or four bytes of the UID are those from a place on. Assumes nothing.
use borrow.Author.Rules.{rules}
use mathlib.Core.Path.{◌≡◌}
use native.Mathlib.Omega.{arith}
use lib.ListN.{length}
use Rattle.uid.specs.Uid.{levels, three_levels}
use Rattle.uid.specs.BytesAtLaws.{three_at, four_at}
use Rattle.uid.proofs.levels.Goals as goal

pub returns-in-Single : goal.returns-in-Single
unfolding three_levels levels
returns-in-Single c = let b = c.args.u.bytes in
    let e : length b ≡ 10 = search rules in
    rw (c.level_row-l1.ensures, c.in-Single.is, four_at 0 b (omega arith))

pub returns-in-Double : goal.returns-in-Double
unfolding three_levels levels
returns-in-Double c = let b = c.args.u.bytes in
    let e : length b ≡ 10 = search rules in
    rw (
      c.level_row-l2.ensures,
      c.level_row-l1-in-Double.ensures,
      c.in-Double.is,
      three_at 0 b (omega arith),
      four_at 3 b (omega arith),
    )

pub returns-in-Triple : goal.returns-in-Triple
unfolding three_levels levels
returns-in-Triple c = let b = c.args.u.bytes in
    let e : length b ≡ 10 = search rules in
    rw (
      c.level_row-l3.ensures,
      c.level_row-l2-in-Triple.ensures,
      c.level_row-l1-in-Triple.ensures,
      c.in-Triple.is,
      three_at 0 b (omega arith),
      three_at 3 b (omega arith),
      four_at 6 b (omega arith),
    )
