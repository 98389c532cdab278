use mathlib.Core.Path.{sym, ◌∙◌}
use native.Mathlib.Omega.{arith}
use lib.ListN.{length-take}
use Rattle.sweep_steps.specs.ExchangeLaws.{front_of_law}
use Rattle.trace_rules.specs.Trace.{step}
use Rattle.trace.proofs.walk.step.Goals as goal

pub slice_bounds-frame-end : goal.slice_bounds-frame-end
slice_bounds-frame-end c = (front_of_law _ _ _ _ c.frame_bits-bits.ensures c.put_frame.ensures).fits

pub slice_bounds-sent_at-end : goal.slice_bounds-sent_at-end
slice_bounds-sent_at-end c = rw length-take (omega (arith, (front_of_law _ _ _ _ c.frame_bits-bits.ensures c.put_frame.ensures).fits))

pub returns-in-Ok : goal.returns-in-Ok
unfolding step
returns-in-Ok c = let u = front_of_law _ _ _ _ c.frame_bits-bits.ensures c.put_frame.ensures in
    rw (rw u.bits at (sym c.sent_at.ensures ∙ c.in-Ok.is)) c.heard_step.ensures

pub returns-in-Err : goal.returns-in-Err
unfolding step
returns-in-Err c = let u = front_of_law _ _ _ _ c.frame_bits-bits.ensures c.put_frame.ensures in
    rw (rw u.bits at (sym c.sent_at.ensures ∙ c.in-Err.is)) c.faults.ensures
