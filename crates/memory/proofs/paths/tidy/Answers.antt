-- `memory::paths::tidy` meets its contract. Assumes nothing.
use mathlib.Core.Path.{◌≡◌}
use native.Mathlib.Omega.{arith}
use lib.ListN.{length, length-take}
use Rattle.memory.proofs.StoredLaws.{kept_stored, made_tidy}
use borrow.Author.Rules.{rules}
use Rattle.memory.specs.Stored.{path_of}
use Rattle.memory.proofs.paths.tidy.Goals as goal

pub slice_bounds-put-end : goal.slice_bounds-put-end
slice_bounds-put-end c = let n : length c.args.p.row ≡ 120 = search rules in omega (arith, c.min-known.ensures)

pub put-requires : goal.put-requires
put-requires c = let n : length c.args.p.row ≡ 120 = search rules in rw length-take (omega (arith, c.min-known.ensures))

pub invariant_of-result : goal.invariant_of-result
invariant_of-result c = let m = c.min-known in
    let a = c.args in
    let n : length a.p.row ≡ 120 = search rules in
    record { kept = kept_stored _ (path_of a.p) (made_tidy a.p m.result _ n m.ensures c.put.ensures) (omega (arith, m.ensures)) }

pub returns : goal.returns
returns c = let m = c.min-known in
    let a = c.args in
    let n : length a.p.row ≡ 120 = search rules in
    made_tidy a.p m.result _ n m.ensures c.put.ensures
