-- The terms of the call can be met, both where the UID is there and where it is not: by wake_rules' field of four cards. Assumes nothing.
use mathlib.Core.Path.{refl}
use mathlib.Core.Bool.{false}
use mathlib.Core.List.{[], ◌∷◌}
use native.Mathlib.Omega.{arith}
use Rattle.uid.specs.Calls.{valid_bytes}
use Rattle.reader.specs.Reader.{blank}
use Rattle.sweep_rules.proofs.Example.{field, meets}
use Rattle.wake.specs.Promise.{Terms}
use Rattle.reader.specs.declared.Phase.TheVariants.{New}

-- the halted card's UID, and one that no card has
pub there_terms : Terms (blank New false) (0x11 ∷ 0x22 ∷ 0x33 ∷ 0x45 ∷ []) field 4
unfolding valid_bytes
there_terms = record { new = refl; uid = refl; few = omega arith; field = meets }

pub absent_terms : Terms (blank New false) (0x04 ∷ 0xA1 ∷ 0xB2 ∷ 0xC3 ∷ 0xD4 ∷ 0xE5 ∷ 0xF7 ∷ []) field 4
unfolding valid_bytes
absent_terms = record { new = refl; uid = refl; few = omega arith; field = meets }
