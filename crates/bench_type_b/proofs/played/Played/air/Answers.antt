use mathlib.Core.Path.{sym, ap, ◌∙◌}
use lib.ListN.{length}
use native.Mathlib.Omega.{arith}
use Rattle.field.specs.TakeLaws.{front_fits}
use Rattle.bench_type_b.proofs.played.Played.air.Goals as goal

pub loop-drawn-preserved : goal.loop-drawn-preserved
loop-drawn-preserved c = let t = c.take_one-one in
    let k = t.auto.heard ∙ c.loop-drawn.invariant.0 in
    (k, omega (arith, ap (λ o. o.bits) t.ensures.value, front_fits _ _ _ (sym (ap length t.ensures.heard_after) ∙ k)))
