use Prim.Native.Nat.{◌%◌}
use mathlib.Core.Path.{refl, sym, ◌∙◌}
use native.Mathlib.Omega.{arith}
use Rattle.bench_values.specs.ValueLaws.{joined_next, joined_done, digit_more, digit_room}
use Rattle.bench_values.proofs.within.join.Goals as goal

pub loop-c-init : goal.loop-c-init
loop-c-init c = (refl, omega arith)

pub overflow_mul-v : goal.overflow_mul-v
overflow_mul-v c = omega (arith, digit_room 9 c.loop-c.c-index c.loop-c.v (omega arith) c.loop-c.invariant.1)

pub overflow_add-v : goal.overflow_add-v
overflow_add-v c = let l = c.loop-c in
    omega (arith, digit_room 9 l.c-index l.v (omega arith) l.invariant.1)

pub loop-c-preserved : goal.loop-c-preserved
loop-c-preserved c = let l = c.loop-c in
    let a = c.args in
    let w = a.word.now in
    let e = c.decimal_value.ensures in
    (rw e (sym (joined_next l.v w l.c-index (omega arith)) ∙ l.invariant.0), digit_more l.v (c.decimal_value.result % 10) l.c-index l.invariant.1 (omega arith))

pub returns : goal.returns
returns c = let l = c.loop-c in
    let w = c.args.word.now in
    sym (joined_done l.v w l.c-index (omega arith)) ∙ l.invariant.0
