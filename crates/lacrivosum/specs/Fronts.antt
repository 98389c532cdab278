-- The front end's energies for C: the gate by its number, and what the call answers.
use Rattle.std.specs.Prelude.{ℕ, cond, List, eqb, ltb, Float}
use Rattle.refusal.specs.Refusal.{Said, decline_if}
use Rattle.front.specs.declared.Gate.{Gate}
use Rattle.front.specs.declared.Gate.TheVariants.{Level, Share, Off}
use Rattle.front.specs.declared.Profile.{Profile}
use Rattle.front.specs.Calls.{receive_says}

-- 1 a level, 2 a share, 0 off
abbrev pub gate_of : ℕ → Float → Gate
gate_of gate value = cond (eqb gate 1) (Level value) (cond (eqb gate 2) (Share value) Off)

abbrev pub profile_of : ℕ → Float → Float → Float → Profile
profile_of gate value floor peak = record { floor = floor; peak = peak; gate = gate_of gate value }

-- 6 where no gate has this number, ahead of 1 and 13
unfoldable pub front_says : ℕ → ℕ → Profile → List Float → Said
front_says gate room p h = decline_if (ltb 2 gate) 6 (receive_says room p h)
