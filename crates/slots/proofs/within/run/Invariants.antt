-- `slots::within::run` meets its contract. The loop's invariant: what was told so far and what is left of the run are the run. Assumes nothing.
use Prim.Native.Nat.{◌-◌}
use lib.ListN.{take}
use Rattle.slots_rules.specs.RunB.{inquiry}
use Rattle.slots.specs.RunLaws.{Under}
use Rattle.slots.proofs.within.run.Given as goal

abbrev pub invariant-loop-q : goal.invariant-loop-q
invariant-loop-q l = Under l.q.wake l.q.slots l.q.afi l.count (inquiry l.q.wake l.q.slots l.q.afi (take l.count l.initial.p.cards)) l.initial.p.cards l.initial.list l.p l.list

abbrev pub decreases-loop-q : goal.decreases-loop-q
decreases-loop-q l = l.q.slots - l.p.frames
