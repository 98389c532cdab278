use mathlib.Core.Path.{refl, sym, ap, ◌∙◌}
use native.Mathlib.Omega.{arith}
use lib.ListN.{length-set}
use lib.Seq.{take_all}
use Rattle.rows.specs.Rows.{overlay}
use Rattle.rows.proofs.RowLaws.{overlay_nil}
use Rattle.bench_values.specs.Values.{row_bits}
use Rattle.bench_values.specs.ValueLaws.{copy_front, row_at, length_row_bits}
use Rattle.bench_values.proofs.within.write_row.Goals as goal

pub loop-i-init : goal.loop-i-init
loop-i-init c = (refl, sym (overlay_nil _ _))

pub loop-i-preserved : goal.loop-i-preserved
loop-i-preserved c = let l = c.loop-i in
    let a = c.args in
    let w = a.word.now in (
      simp length-set (omega arith),
      rw (c.bit_value.ensures, ← row_at w l.i (omega arith), l.invariant.1) (copy_front a.out.now (row_bits w) l.i (omega arith) (omega (arith, length_row_bits w))),
    )

pub returns : goal.returns
returns c = let l = c.loop-i in
    let a = c.args in
    l.invariant.1 ∙ ap (overlay a.out.now 0) (take_all l.i (row_bits a.word.now) (omega (arith, length_row_bits a.word.now)))
