-- `request_v::within::inventory_deed` meets its contract: an inventory holds its mask. Assumes nothing.
use Rattle.std.proofs.Common.{◌-◌, ◌/◌, length, sym, ◌∙◌, arith}
use Rattle.request_v.proofs.RequestLaws.{inventory_fits, mask_64}
use Rattle.request_v.proofs.within.inventory_deed.Goals as goal

pub is_matching-requires : goal.is_matching-requires
is_matching-requires c =
    let h = inventory_fits c.args.q c.byte-code.result (length c.args.row.now / 8 - 2) c.byte-len.result (sym c.is_inventory.ensures ∙ c.if-is_inventory.true) in
    (omega (arith, h.1, c.length_at-k.ensures.value), mask_64 c.args.q.sixth _ h.0)

pub turn_in-requires : goal.turn_in-requires
turn_in-requires c = (inventory_fits c.args.q c.byte-code.result (length c.args.row.now / 8 - 2) c.byte-len.result (sym c.is_inventory.ensures ∙ c.if-is_inventory.true)).0
