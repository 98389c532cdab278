use mathlib.Core.Path.{◌≡◌, refl, sym, ◌∙◌}
use mathlib.Core.List.{append-nil}
use native.Mathlib.Omega.{arith}
use native.Mathlib.Nat.{sub_self}
use lib.ListN.{length}
use Rattle.bench.specs.WordLaws.{run_next, run_here, run_done, letters_next, letters_here, letters_done}
use Rattle.bench.proofs.within.stop.Goals as goal

pub loop-i-init : goal.loop-i-init
loop-i-init c = (omega arith, omega arith, refl, rw sub_self)

pub returns-then-text-i-eq32 : goal.returns-then-text-i-eq32
returns-then-text-i-eq32 c = let l = c.loop-i in
    let t = c.args.text.now in
    record {
      low = omega arith;
      high = omega arith;
      rest = sym (run_here t l.i (omega arith) c.if-text-i-eq32.true) ∙ l.invariant.2;
      run = rw (letters_here t l.i (omega arith) c.if-text-i-eq32.true, append-nil) at l.invariant.3;
    }

pub loop-i-preserved : goal.loop-i-preserved
loop-i-preserved c = let l = c.loop-i in
    let a = c.args in
    let t = a.text.now in (
      omega arith,
      omega arith,
      sym (run_next t l.i (omega arith) c.if-text-i-eq32.false) ∙ l.invariant.2,
      letters_next t a.from l.i (omega arith) (omega arith) c.if-text-i-eq32.false ∙ l.invariant.3,
    )

pub returns : goal.returns
returns c = let l = c.loop-i in
    let t = c.args.text.now in
    let e : l.i ≡ length t = omega arith in
    record {
      low = omega arith;
      high = omega arith;
      rest = rw e at (sym (run_done t l.i (omega arith)) ∙ l.invariant.2);
      run = rw e at (rw (letters_done t l.i (omega arith), append-nil) at l.invariant.3);
    }
