use mathlib.Core.Path.{◌≡◌, refl, sym}
use native.Mathlib.Omega.{arith}
use lib.ListN.{length, length-set}
use Rattle.rows.proofs.RowLaws.{overlay_nil}
use Rattle.air_log.specs.Log.{packed}
use Rattle.air_log.specs.Calls.{is_marks, shown, row_size}
use Rattle.air_log.specs.PackLaws.{length_shown, packed_turn}
use Rattle.air_log.proofs.within.put_packed.Goals as goal

pub loop-k-init : goal.loop-k-init
unfolding packed
loop-k-init c = (omega arith, refl, sym (overlay_nil _ _))

pub loop-k-preserved : goal.loop-k-preserved
loop-k-preserved c = let l = c.loop-k in
    let a = c.args in (
      omega arith,
      simp length-set (omega arith),
      rw (c.packed_byte.ensures, l.invariant.2) (packed_turn a.out.now a.at l.k (shown (is_marks a.part) a.row.now) (omega arith)),
    )

pub returns : goal.returns
returns c = let l = c.loop-k in
    let a = c.args in
    let e : l.k ≡ row_size (length (shown (is_marks a.part) a.row.now)) = rw (length_shown (is_marks a.part) a.row.now) (omega arith) in
    rw e at l.invariant.2
