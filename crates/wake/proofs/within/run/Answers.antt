use mathlib.Core.Path.{◌≡◌, sym, ◌∙◌}
use mathlib.Core.Bool.{true, false}
use native.Mathlib.Omega.{arith}
use lib.ListN.{length}
use Rattle.limits.specs.Limits.{most_cards}
use Rattle.reader.specs.KnownLaws.{count_levels, count_most}
use Rattle.wake.specs.StepLaws.{under_none, under_fewer, under_turn, under_ends, fewer_left, wake_rest}
use Rattle.wake.specs.Steps.{goes_on}
use borrow.Author.Rules.{rules}
use Rattle.wake.proofs.within.run.Goals as goal

pub overflow_add-most : goal.overflow_add-most
overflow_add-most c = omega (arith, c.level_count-most.ensures, count_most c.args.u.size)

pub loop-w-init : goal.loop-w-init
loop-w-init c = let a = c.args in
    let full : length a.cards ≡ most_cards = search rules in
    (under_none c.starts-w.result a.u a.cards a.n _ c.starts-w.ensures.value full, omega (arith, c.level_count-most.ensures, count_most a.u.size))

pub step-w-requires : goal.step-w-requires
step-w-requires c = let l = c.loop-w in
    let g : goes_on l.w _ ≡ true = sym c.goes_on.ensures ∙ c.loop-w-test.true in
    (c.requires, omega (arith, under_fewer l.w _ g, l.invariant.1))

pub loop-w-smaller : goal.loop-w-smaller
loop-w-smaller c = let l = c.loop-w in
    let g : goes_on l.w _ ≡ true = sym c.goes_on.ensures ∙ c.loop-w-test.true in
    fewer_left l.w c.step-w.result _ _ (under_fewer l.w _ g) c.step-w.ensures

pub loop-w-preserved : goal.loop-w-preserved
loop-w-preserved c = let l = c.loop-w in
    let g : goes_on l.w _ ≡ true = sym c.goes_on.ensures ∙ c.loop-w-test.true in
    rw c.step-w.ensures (under_turn _ _ _ _ l.w l.invariant.0 c.requires g, l.invariant.1)

pub returns : goal.returns
returns c = let l = c.loop-w in
    let a = c.args in
    let w₀ = c.starts-w in
    let n = c.level_count-most in
    let g : goes_on l.w _ ≡ false = sym c.goes_on.ensures ∙ c.loop-w-test.false in record {
      value = under_ends _ _ _ _ l.w l.invariant.0 c.requires g
          ∙ wake_rest w₀.result a.u a.cards a.n _ w₀.ensures.value (omega (arith, n.ensures, count_levels a.u));
      typed = w₀.ensures.typed;
    }
