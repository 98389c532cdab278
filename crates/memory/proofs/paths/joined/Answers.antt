-- `memory::paths::joined` meets its contract. Assumes nothing.
use mathlib.Core.Path.{◌≡◌}
use native.Mathlib.Omega.{arith}
use lib.ListN.{length, length-take}
use Rattle.memory.proofs.LearnLaws.{made_joined}
use borrow.Author.Rules.{rules}
use lib.ListN.{take}
use mathlib.Core.List.{◌++◌}
use Rattle.memory.specs.Stored.{path_of}
use Rattle.memory.proofs.StoredLaws.{kept_stored}
use Rattle.memory.proofs.paths.joined.Goals as goal

pub slice_bounds-put-end : goal.slice_bounds-put-end
slice_bounds-put-end c = let n : length c.args.t.path.row ≡ 120 = search rules in omega (arith, c.args.t.kept.fits)

pub put-requires : goal.put-requires
put-requires c = let n : length c.args.t.path.row ≡ 120 = search rules in rw length-take (omega (arith, c.args.t.kept.fits))

pub invariant_of-result : goal.invariant_of-result
invariant_of-result c = let a = c.args in
    let n : length a.t.path.row ≡ 120 = search rules in
    let e = made_joined a.t.path a.n c.min-m.result a.s.now _ _ n a.t.kept.fits c.min-m.ensures (omega arith) c.put.ensures c.put-2.ensures in
    record { kept = kept_stored _ (take a.n (path_of a.t.path) ++ a.s.now) e (omega arith) }

pub returns : goal.returns
returns c = let a = c.args in
    let n : length a.t.path.row ≡ 120 = search rules in
    made_joined a.t.path a.n c.min-m.result a.s.now _ _ n a.t.kept.fits c.min-m.ensures (omega arith) c.put.ensures c.put-2.ensures
