-- `exchange::lossy` meets its contract, the loop keeps `Under`: what is left comes to what the whole comes to. Assumes nothing.
use Prim.Native.Nat.{◌-◌}
use Rattle.exchange.specs.Steps.{state_of, rest_of}
use Rattle.exchange.proofs.RunLaws.{Script, scripted, Under}
use Rattle.exchange.proofs.lossy.Given as goal

abbrev pub invariant-loop-row : goal.invariant-loop-row
invariant-loop-row l =
    let c : Script = record { noise = l.noise; downs = l.downs; hosts = l.hosts; ups = l.ups } in
    Under c l.message l.before l.answer l.rounds l.initial.down l.initial.up (rest_of l.message l.answer (scripted c 0 l.rounds) (state_of l.initial.p l.before l.answer l.initial.down l.initial.up l.initial.row)) l.p l.down l.up l.row

abbrev pub decreases-loop-row : goal.decreases-loop-row
decreases-loop-row l = l.rounds - l.p.so_far.rounds
