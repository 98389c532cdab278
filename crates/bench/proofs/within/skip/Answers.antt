use mathlib.Core.Path.{◌≡◌, refl, sym, ◌∙◌}
use native.Mathlib.Omega.{arith}
use lib.ListN.{length}
use Rattle.bench.specs.WordLaws.{gap_next, gap_here, gap_done}
use Rattle.bench.proofs.within.skip.Goals as goal

pub loop-i-init : goal.loop-i-init
loop-i-init c = (omega arith, omega arith, refl)

pub returns-then-text-i-ne32 : goal.returns-then-text-i-ne32
returns-then-text-i-ne32 c = let l = c.loop-i in
    let t = c.args.text.now in
    record { low = omega arith; high = omega arith; rest = sym (gap_here t l.i (omega arith) c.if-text-i-ne32.true) ∙ l.invariant.2 }

pub loop-i-preserved : goal.loop-i-preserved
loop-i-preserved c = let l = c.loop-i in
    let t = c.args.text.now in
    (omega arith, omega arith, sym (gap_next t l.i (omega arith) c.if-text-i-ne32.false) ∙ l.invariant.2)

pub returns : goal.returns
returns c = let l = c.loop-i in
    let t = c.args.text.now in
    let e : l.i ≡ length t = omega arith in
    record { low = omega arith; high = omega arith; rest = rw e at (sym (gap_done t l.i (omega arith)) ∙ l.invariant.2) }
