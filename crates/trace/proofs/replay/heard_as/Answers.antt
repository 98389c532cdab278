use mathlib.Core.Path.{◌≡◌, refl, sym, ◌∙◌}
use mathlib.Core.Bool.{Bool, true, false, cond}
use native.Mathlib.Omega.{arith}
use lib.ListN.{length-take}
use Rattle.std.specs.Prelude.{Err}
use Rattle.refusal.specs.declared.Refusal.{Refusal}
use Rattle.refusal.specs.declared.Refusal.TheVariants.{Forbidden}
use Rattle.trace_rules.specs.declared.Differs.TheVariants.{Second}
use Rattle.trace_rules.specs.Check.{heard_compared}
use Rattle.sweep_steps.specs.ExchangeLaws.{front_of_law}
use Rattle.trace.specs.ReadLaws.{heard_ok, heard_err}
use Rattle.trace.proofs.replay.heard_as.Goals as goal

not_heard : (b : Bool) (e : Refusal) → heard_compared (cond b (Err e) (Err Forbidden)) ≡ Err Second
not_heard true e = refl
not_heard false e = refl

pub slice_bounds-row-end : goal.slice_bounds-row-end
slice_bounds-row-end c = let k = heard_ok _ _ _ (sym c.in-Ok.is ∙ c.heard_at.ensures.value) in
    (front_of_law _ _ _ _ k.1 c.heard_at.ensures.row_after).fits

pub slice_bounds-is_same-end : goal.slice_bounds-is_same-end
slice_bounds-is_same-end c = let k = heard_ok _ _ _ (sym c.in-Ok.is ∙ c.heard_at.ensures.value) in
    rw length-take (omega (arith, (front_of_law _ _ _ _ k.1 c.heard_at.ensures.row_after).fits))

pub returns-then-is_same : goal.returns-then-is_same
returns-then-is_same c = let k = heard_ok _ _ _ (sym c.in-Ok.is ∙ c.heard_at.ensures.value) in
    let u = front_of_law _ _ _ _ k.1 c.heard_at.ensures.row_after in
    rw (rw u.bits at (sym c.is_same.ensures ∙ c.if-is_same.true), k.0)

pub returns-else-is_same : goal.returns-else-is_same
returns-else-is_same c = let k = heard_ok _ _ _ (sym c.in-Ok.is ∙ c.heard_at.ensures.value) in
    let u = front_of_law _ _ _ _ k.1 c.heard_at.ensures.row_after in
    rw (rw u.bits at (sym c.is_same.ensures ∙ c.if-is_same.false))

pub returns-in_default : goal.returns-in_default
returns-in_default c = rw (heard_err _ _ _ (sym c.in_default.is ∙ c.heard_at.ensures.value)) (sym (not_heard _ _))
