use Prim.Native.Nat.{◌-◌}
use mathlib.Core.Path.{◌≡◌, refl, sym, ◌∙◌}
use native.Mathlib.Omega.{arith}
use Rattle.air_log.specs.Reading.{bits_from}
use Rattle.air_log.specs.UnpackLaws.{apart_turn, apart_done}
use Rattle.air_log.proofs.reading.is_apart.Goals as goal

pub loop-i-init : goal.loop-i-init
loop-i-init c = let a = c.args in
    let e : a.n - 0 ≡ a.n = omega arith in
    (omega arith, rw e refl)

pub returns-then-is_clash : goal.returns-then-is_clash
returns-then-is_clash c = let l = c.loop-i in
    let a = c.args in
    let e = rw (c.bit_at.ensures, c.bit_at-in-loop-i.ensures) at c.is_clash.ensures in
    let t =
    apart_turn (bits_from a.log.now a.start) (bits_from a.log.now a.marks) l.i a.n c.is_clash.result
    (omega arith) (omega arith) (omega arith) e in
    sym (rw c.if-is_clash.true at t) ∙ l.invariant.1

pub loop-i-preserved : goal.loop-i-preserved
loop-i-preserved c = let l = c.loop-i in
    let a = c.args in
    let e = rw (c.bit_at.ensures, c.bit_at-in-loop-i.ensures) at c.is_clash.ensures in
    let t =
    apart_turn (bits_from a.log.now a.start) (bits_from a.log.now a.marks) l.i a.n c.is_clash.result
    (omega arith) (omega arith) (omega arith) e in
    (omega arith, sym (rw c.if-is_clash.false at t) ∙ l.invariant.1)

pub returns : goal.returns
returns c = let l = c.loop-i in
    let a = c.args in
    sym (apart_done (bits_from a.log.now a.start) (bits_from a.log.now a.marks) l.i a.n (omega arith)) ∙ l.invariant.1
