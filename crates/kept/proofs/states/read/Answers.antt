use mathlib.Core.Path.{refl, ap, ◌∙◌}
use Prim.Native.Nat.{◌-◌, ◌*◌}
use native.Mathlib.Omega.{arith}
use lib.ListN.{length, drop, length-drop, length-set}
use lib.Seq.{take_all}
use Rattle.kept.specs.States.{states_from}
use Rattle.kept.specs.StatesLaws.{array_turn, array_done}
use Rattle.kept.proofs.states.read.Goals as goal

pub loop-i-init : goal.loop-i-init
unfolding states_from
loop-i-init g c = record { few = omega arith; size = refl; filled = λ f p. refl }

pub loop-i-preserved : goal.loop-i-preserved
loop-i-preserved g c = let l = c.loop-i in
    let a = c.args in
    let b = a.b.now in
    let e = take_all (length b - 64 * l.i) (drop (64 * l.i) b) (simp length-drop (omega arith)) in
    record {
      few = omega (arith, c.few-i-end.ensures);
      size = simp length-set l.invariant.size;
      filled = λ f p. array_turn f a.none 32 b l.values l.i c.value.result (omega (arith, c.few-i-end.ensures)) (l.invariant.filled f p) (p _ _ _ c.value.ensures ∙ ap (f l.i) e);
    }

pub returns : goal.returns
returns g c = let l = c.loop-i in
    let a = c.args in
    λ f p. array_done f a.none 32 a.n a.b.now l.values l.i (omega (arith, c.few-i-end.ensures)) (l.invariant.filled f p)
