use Prim.Native.Nat.{◌-◌}
use lib.ListN.{take}
use Rattle.limits.specs.Limits.{most_frames}
use Rattle.sweep_steps.specs.Loop.{swept_if}
use Rattle.sweep_steps.specs.LoopLaws.{Under}
use Rattle.sweep_steps.proofs.within.run.Given as goal

abbrev pub invariant-loop-log : goal.invariant-loop-log
invariant-loop-log g l = Under g.H.Hears.remembers l.start (swept_if g.H.Hears.remembers (take l.n l.initial.p.cards)) l.initial.p.cards l.n l.initial.log l.initial.list l.p l.log l.list

abbrev pub decreases-loop-log : goal.decreases-loop-log
decreases-loop-log g l = most_frames - l.p.frames
