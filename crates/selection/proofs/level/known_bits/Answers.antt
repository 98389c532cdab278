use mathlib.Core.Path.{◌≡◌}
use native.Mathlib.Omega.{arith}
use lib.ListN.{length, length-take}
use Rattle.selection.specs.LevelLaws.{first_le, known_clean, known_clash}
use borrow.Author.Rules.{rules}
use Rattle.selection.proofs.level.known_bits.Goals as goal

pub slice_bounds-d-end : goal.slice_bounds-d-end
slice_bounds-d-end c = omega (arith, first_le c.args.d)

pub slice_bounds-put-end-2 : goal.slice_bounds-put-end-2
slice_bounds-put-end-2 c = let n : length c.args.d ≡ 40 = search rules in rw length-take (omega (arith, first_le c.args.d))

pub returns-then-p-lt40 : goal.returns-then-p-lt40
returns-then-p-lt40 c = let a = c.args in
    known_clash a.d _ a.p (search rules) (search rules) (search rules) c.put.ensures

pub returns-else-p-lt40 : goal.returns-else-p-lt40
returns-else-p-lt40 c = let a = c.args in
    known_clean a.d _ a.p (search rules) (search rules) (omega arith) c.put.ensures
