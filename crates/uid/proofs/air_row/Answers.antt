-- `uid::air_row` meets its contract: where there is room, what the loop over levels wrote is the on-air row. Assumes nothing.
use Rattle.std.specs.Prelude.{Ok}
use borrow.Author.Rules.{rules}
use Prim.Native.Nat.{◌*◌}
use lib.ListN.{length}
use lib.Seq.{length-take-le}
use mathlib.Core.Path.{◌≡◌, sym, ap, ◌∙◌}
use native.Mathlib.Omega.{arith}
use Rattle.uid.specs.SaysLaws.{air_has_room}
use Rattle.uid.specs.BytesAtLaws.{levels_most}
use Rattle.uid.specs.AirLaws.{row_made}
use Rattle.uid.proofs.air_row.Goals as goal
use Rattle.refusal.specs.Refusal.{number_says}

pub returns : goal.returns
returns c = let u = c.args.u in
    let p = c.put_levels in
    let r = row_made u _ _ c.level_count-n.ensures c.levels.ensures in
    let three : length c.levels.result ≡ 3 = search rules in
    let n = length-take-le c.level_count-n.result c.levels.result (omega (arith, levels_most u.size, c.level_count-n.ensures)) in
    record { result_value = ap (λ n. number_says (Ok n)) (sym (rw r at (p.ensures.rows_len ∙ ap (λ k. 40 * k) n))) ∙ sym (air_has_room _ u c.if-out-lt120.false); out_after = rw r at p.ensures.out_after }
