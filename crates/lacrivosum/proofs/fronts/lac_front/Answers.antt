-- `lacrivosum::fronts::lac_front` meets its contract, by that of crate front's call. Assumes nothing.
use mathlib.Core.Path.{ap}
use lib.ListN.{length}
use Rattle.front.specs.declared.Gate.{Gate}
use Rattle.front.specs.declared.Profile.{Profile}
use Rattle.lacrivosum.specs.Fronts.{profile_of}
use Rattle.lacrivosum.specs.FrontCallLaws.{no_gate, gated}
use Rattle.lacrivosum.proofs.fronts.lac_front.Goals as goal

pub returns-then-gate-gt2 : goal.returns-then-gate-gt2
returns-then-gate-gt2 c = let a = c.args in let both = no_gate a.gate (length a.out.now) _ (profile_of a.gate a.value a.floor a.peak) a.halves.now _ a.out.now c.if-gate-gt2.true c.refused.ensures in record { value = both.0; out_after = both.1 }

pub returns : goal.returns
returns c = let a = c.args in let r = c.receive-h in let both = let made : Gate → Profile = λ g. record { floor = a.floor; peak = a.peak; gate = g } in gated a.gate (length a.out.now) _ (profile_of a.gate a.value a.floor a.peak) _ a.halves.now r.result a.out.now _ c.if-gate-gt2.false (ap made c.gate_of.ensures) r.ensures.result_value r.ensures.places_after c.heard_number.ensures in record { value = both.0; out_after = both.1 }
