-- `request_v::within::is_matching` meets its contract: both parts are compared. Assumes nothing.
use Prim.Native.Nat.{◌+◌, ◌-◌}
use mathlib.Core.Path.{◌≡◌}
use lib.ListN.{length-take}
use Rattle.request_v.specs.Inventory.{matching}
use native.Mathlib.Omega.{arith}
use Rattle.request_v.proofs.within.is_matching.Goals as goal

pub slice_bounds-is_same-end-2 : goal.slice_bounds-is_same-end-2
slice_bounds-is_same-end-2 c = rw length-take (omega arith)

pub returns : goal.returns
unfolding matching
returns c = let a = c.args in
    let e : a.at + a.len - a.at ≡ a.len = omega arith in
    rw (c.is_same.ensures, e, c.uid_bits-bits.ensures)
