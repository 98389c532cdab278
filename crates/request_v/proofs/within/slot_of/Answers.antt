-- `request_v::within::slot_of` meets its contract: four of the UID's bits. Assumes nothing.
use Prim.Native.Nat.{◌+◌, ◌-◌}
use mathlib.Core.Path.{◌≡◌}
use lib.ListN.{length-take}
use Rattle.rows.specs.HeardLaws.{clean_take, clean_drop}
use Rattle.request_v.specs.Inventory.{slot_of}
use Rattle.request_v.specs.InventoryLaws.{uid_clean}
use native.Mathlib.Omega.{arith}
use Rattle.request_v.proofs.within.slot_of.Goals as goal

pub number_of-requires : goal.number_of-requires
number_of-requires c = let a = c.args in
    let e : a.len + 4 - a.len ≡ 4 = omega arith in
    (rw (e, length-take) (omega arith), clean_take (a.len + 4 - a.len) _ (clean_drop a.len _ (uid_clean _ _ c.uid_bits-bits.ensures)))

pub returns : goal.returns
unfolding slot_of
returns c = let a = c.args in
    let e : a.len + 4 - a.len ≡ 4 = omega arith in
    rw (c.number_of.ensures, e, c.uid_bits-bits.ensures)
