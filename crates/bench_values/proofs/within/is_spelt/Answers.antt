use mathlib.Core.Path.{refl, sym, ◌∙◌}
use native.Mathlib.Omega.{arith}
use Rattle.bench_values.specs.ValueLaws.{spelt_next, spelt_here, spelt_done}
use Rattle.bench_values.proofs.within.is_spelt.Goals as goal

pub loop-c-init : goal.loop-c-init
loop-c-init c = refl

pub returns-then-value_of-ge16 : goal.returns-then-value_of-ge16
returns-then-value_of-ge16 c = let l = c.loop-c in
    let a = c.args in
    sym (spelt_here a.a a.word.now l.c-index (omega arith) (omega (arith, c.value_of.ensures))) ∙ l.invariant

pub loop-c-preserved : goal.loop-c-preserved
loop-c-preserved c = let l = c.loop-c in
    let a = c.args in
    sym (spelt_next a.a a.word.now l.c-index (omega arith) (omega (arith, c.value_of.ensures))) ∙ l.invariant

pub returns : goal.returns
returns c = let l = c.loop-c in
    let a = c.args in
    sym (spelt_done a.a a.word.now l.c-index (omega arith)) ∙ l.invariant
