use Rattle.std.proofs.Common.{◌≡◌, sym, ◌∙◌, arith, cond, length, take, get_or, length-set, lt-ltb, le-ltb, nat_lt}
use lib.Seq.{length-take-le}
use Rattle.rows.proofs.RowLaws.{overlay_nil}
use Rattle.field.specs.Merge.{meet}
use Rattle.field.specs.JoinLaws.{length_join, join_turn, join_done}
use Rattle.field.proofs.within.join.Goals as goal
use Rattle.field.proofs.within.join.Goals.{then-i-bits, else-i-bits}

pub loop-i-init : goal.loop-i-init
loop-i-init c = (omega arith, omega arith, sym (overlay_nil _ 0))

pub loop-i-preserved : goal.loop-i-preserved
loop-i-preserved c =
    let l = c.loop-i in
    let a = c.args in
    let bit : c.if-i-bits.row ≡ cond (nat_lt l.i a.bits) (meet (get_or a.answer.now l.i 0) (get_or l.row l.i 0)) (get_or a.answer.now l.i 0) = elim c.if-i-bits.branch [
      | then-i-bits w ↦ rw (lt-ltb _ _ w.if-i-bits.true) (w.row-is ∙ w.meet.ensures)
      | else-i-bits w ↦ rw (le-ltb _ _ w.if-i-bits.false) w.row-is
    ] in (
      omega arith,
      simp length-set (omega arith),
      rw (bit, l.invariant.2) (join_turn a.row.now a.bits a.answer.now (omega arith) (omega arith) l.i (omega arith)),
    )

pub returns : goal.returns
returns c =
    let l = c.loop-i in
    let a = c.args in
    let heard = take a.bits a.row.now in
    let e : l.i ≡ length a.answer.now = omega arith in
    let k : length heard ≡ a.bits = length-take-le a.bits a.row.now (omega arith) in
    record {
      value = omega (arith, c.max.ensures, length_join a.answer.now heard, k);
      row_after = rw e at l.invariant.2 ∙ join_done a.row.now a.bits a.answer.now (omega arith) (omega arith);
    }
