use Prim.Native.Nat.{◌-◌}
use mathlib.Core.Path.{◌≡◌, sym, ap, ◌∙◌}
use native.Mathlib.Omega.{arith}
use native.Mathlib.Nat.{sub-zero}
use lib.ListN.{drop}
use Rattle.bench.specs.Words.{word_at, first_run}
use Rattle.bench.specs.WordLaws.{word_next}
use Rattle.bench.proofs.word.Goals as goal

pub loop-i-init : goal.loop-i-init
loop-i-init c = (omega arith, omega arith, rw sub-zero)

pub loop-i-preserved : goal.loop-i-preserved
loop-i-preserved c = let l = c.loop-i in
    let a = c.args in (
      omega arith,
      c.after_word-at.ensures.upper_bound,
      rw c.after_word-at.ensures.text_value (sym (word_next a.k l._i (drop l.at a.text.now) (omega arith)) ∙ l.invariant.2),
    )

pub stop-end-requires : goal.stop-end-requires
stop-end-requires c = c.skip-start.ensures.high

pub slice_bounds-result-count : goal.slice_bounds-result-count
slice_bounds-result-count c = c.stop-end.ensures.low

pub returns : goal.returns
unfolding word_at
returns c = let l = c.loop-i in
    let a = c.args in
    let e : a.k - l._i ≡ 0 = omega arith in
    c.stop-end.ensures.run ∙ ap first_run c.skip-start.ensures.rest ∙ rw e at l.invariant.2
