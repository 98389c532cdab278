-- `memory::paths::take_branch` meets its contract. Assumes nothing.
use mathlib.Core.Path.{◌≡◌}
use native.Mathlib.Omega.{arith}
use lib.ListN.{length, length-take}
use borrow.Author.Rules.{rules}
use Rattle.memory.proofs.BranchLaws.{branched_path, made_kept}
use Rattle.memory.proofs.StoredLaws.{kept_stored}
use Rattle.memory.specs.Memory.{branch}
use Rattle.memory.specs.Stored.{path_of, Branched}
use Rattle.memory.proofs.paths.take_branch.Goals as goal

pub slice_bounds-put-end : goal.slice_bounds-put-end
slice_bounds-put-end c = let p = c.args.t.path in
    let n : length p.row ≡ 120 = search rules in
    omega (arith, c.branch_bits-known.ensures.within, length-take p.known p.row)

pub put-requires : goal.put-requires
put-requires c = let p = c.args.t.path in
    let n : length p.row ≡ 120 = search rules in
    rw length-take (omega (arith, c.branch_bits-known.ensures.within, length-take p.known p.row))

pub invariant_of-result : goal.invariant_of-result
invariant_of-result c = let t = c.args.t in
    let k = c.branch_bits-known in
    let b : Branched t.path.row t.path.known k.result = branched_path t.path.row t.path.known k.result k.ensures in
    let h = t.kept.fits in
    record { kept = kept_stored _ (branch (path_of t.path)) (made_kept t.path k.result b _ (omega (arith, b.within, h)) (rw c.saturating_sub.ensures at c.put.ensures)) (omega (arith, b.within, h)) }

pub returns : goal.returns
returns c = let t = c.args.t in
    let k = c.branch_bits-known in
    let b : Branched t.path.row t.path.known k.result = branched_path t.path.row t.path.known k.result k.ensures in
    let h = t.kept.fits in
    made_kept t.path k.result b _ (omega (arith, b.within, h)) (rw c.saturating_sub.ensures at c.put.ensures)
