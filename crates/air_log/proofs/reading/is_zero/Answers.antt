use mathlib.Core.Path.{refl, sym, ◌∙◌}
use native.Mathlib.Omega.{arith}
use Rattle.air_log.specs.Reading.{bits_from}
use Rattle.air_log.specs.UnpackLaws.{zeros_found, zeros_next, zeros_done}
use Rattle.air_log.proofs.reading.is_zero.Goals as goal

pub loop-i-init : goal.loop-i-init
loop-i-init c = (omega arith, omega arith, refl)

pub returns-then-bit_at-ne0 : goal.returns-then-bit_at-ne0
returns-then-bit_at-ne0 c = let l = c.loop-i in
    let a = c.args in
    sym (zeros_found (bits_from a.log.now a.start) l.i a.to (omega arith) (omega arith) (λ e. c.if-bit_at-ne0.true (c.bit_at.ensures ∙ e))) ∙ l.invariant.2

pub loop-i-preserved : goal.loop-i-preserved
loop-i-preserved c = let l = c.loop-i in
    let a = c.args in (
      omega arith,
      omega arith,
      zeros_next (bits_from a.log.now a.start) l.i a.to (omega arith) (omega arith) (sym c.bit_at.ensures ∙ c.if-bit_at-ne0.false) ∙ l.invariant.2,
    )

pub returns : goal.returns
returns c = let l = c.loop-i in
    let a = c.args in
    sym (zeros_done (bits_from a.log.now a.start) l.i a.to (omega arith)) ∙ l.invariant.2
