use mathlib.Core.Path.{sym, ap, ◌∙◌}
use native.Mathlib.Omega.{arith}
use lib.ListN.{length-take}
use Rattle.sweep_steps.specs.ExchangeLaws.{front_of_law}
use Rattle.reader.specs.Reader.{hear}
use Rattle.trace_rules.specs.Trace.{turned}
use Rattle.trace.specs.ReadLaws.{heard_ok, heard_err}
use Rattle.trace.proofs.walk.heard_step.Goals as goal

pub slice_bounds-row-end : goal.slice_bounds-row-end
slice_bounds-row-end c = let k = heard_ok _ _ _ (sym c.in-Ok.is ∙ c.heard_at.ensures.value) in
    (front_of_law _ _ _ _ k.1 c.heard_at.ensures.row_after).fits

pub slice_bounds-hear_rules-end : goal.slice_bounds-hear_rules-end
slice_bounds-hear_rules-end c = let k = heard_ok _ _ _ (sym c.in-Ok.is ∙ c.heard_at.ensures.value) in
    rw length-take (omega (arith, (front_of_law _ _ _ _ k.1 c.heard_at.ensures.row_after).fits))

pub returns-in-Ok : goal.returns-in-Ok
returns-in-Ok c = let a = c.args in
    let k = heard_ok _ _ _ (sym c.in-Ok.is ∙ c.heard_at.ensures.value) in
    let u = front_of_law _ _ _ _ k.1 c.heard_at.ensures.row_after in
    rw k.0 (c.turned.ensures ∙ ap (turned a.log.now a.p _) (c.hear_rules-t.ensures ∙ ap (hear a.p.reader) u.bits))

pub returns-in-Err : goal.returns-in-Err
returns-in-Err c = rw (heard_err _ _ _ (sym c.in-Err.is ∙ c.heard_at.ensures.value)) c.faults.ensures
