-- `wake::within::run` meets its contract: the loop's invariant is what is left of the run. Assumes nothing.
use Prim.Native.Nat.{◌≤◌, ◌-◌}
use lib.ListN.{take}
use Rattle.sweep_rules.specs.Run.{plain}
use Rattle.sweep_steps.specs.RunLaws.{rest}
use Rattle.wake.specs.StepLaws.{Under}
use Rattle.wake.specs.Steps.{turn_in}
use Rattle.wake.proofs.within.run.Given as goal

abbrev pub invariant-loop-w : goal.invariant-loop-w
invariant-loop-w l = Under (rest plain l.most (turn_in l.initial.w) (take l.n l.initial.w.cards)) l.initial.w.cards l.n l.most l.w × (l.most ≤ 4)

abbrev pub decreases-loop-w : goal.decreases-loop-w
decreases-loop-w l = l.most - l.w.frames
