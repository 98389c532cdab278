use mathlib.Core.Path.{◌≡◌, sym, ap, ◌∙◌}
use native.Mathlib.Omega.{arith}
use Prim.Native.Nat.{◌-◌}
use borrow.Author.Tests.{ltb-true}
use lib.ListN.{length}
use Rattle.trace_rules.specs.Trace.{start, step}
use Rattle.trace.specs.WalkLaws.{left, left_first, left_turn, left_done, goes_says}
use Rattle.trace.proofs.walk.walk.Goals as goal

pub loop-s-init : goal.loop-s-init
loop-s-init c = let e : length c.args.log.now - 0 ≡ length c.args.log.now = omega arith in (omega arith, rw e)

pub overflow_add-turn : goal.overflow_add-turn
overflow_add-turn c = let g = goes_says c.loop-s.s c.loop-s.turn (length c.args.log.now) (sym c.goes_on.ensures ∙ c.loop-s-test.true) in
    omega (arith, ltb-true c.loop-s.turn (length c.args.log.now) g.0)

pub loop-s-smaller : goal.loop-s-smaller
loop-s-smaller c = let g = goes_says c.loop-s.s c.loop-s.turn (length c.args.log.now) (sym c.goes_on.ensures ∙ c.loop-s-test.true) in
    omega (arith, ltb-true c.loop-s.turn (length c.args.log.now) g.0)

pub loop-s-preserved : goal.loop-s-preserved
loop-s-preserved c = let a = c.args in
    let l = c.loop-s in
    let g = goes_says c.loop-s.s c.loop-s.turn (length c.args.log.now) (sym c.goes_on.ensures ∙ c.loop-s-test.true) in
    let h = ltb-true l.turn (length a.log.now) g.0 in
    (omega arith, rw c.step-s-in-loop-s.ensures (sym (left_turn a.stamp a.log.now l.turn l.s h g.1) ∙ l.invariant.1))

pub returns : goal.returns
returns c = let a = c.args in
    let l = c.loop-s in
    let n = length a.log.now in
    c.verdict.ensures
    ∙ sym (left_done a.stamp a.log.now l.turn l.s (sym c.goes_on.ensures ∙ c.loop-s-test.false))
    ∙ l.invariant.1
    ∙ ap (left n a.stamp a.log.now 0) (c.step-s.ensures ∙ ap (step a.stamp a.log.now) c.start.ensures)
    ∙ left_first n a.stamp a.log.now 0 start
