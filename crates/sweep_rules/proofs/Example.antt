-- A field within the terms, so that what demand 3 asks of a field can be met: three idle cards with a UID of 4, 7 and 10 bytes, and one that
-- is halted. Assumes nothing.
use mathlib.Core.Path.{◌≡◌, refl}
use Prim.Native.Nat.{ℕ}
use mathlib.Core.Bool.{Bool, true, false}
use mathlib.Core.List.{List, [], ◌∷◌}
use native.Mathlib.Omega.{arith}
use Rattle.rows.specs.Rows.{All, any, same}
use Rattle.uid.specs.Uid.{valid, uid_bytes}
use Rattle.sweep_rules.specs.Demand.{Typed, Demand3}
use Rattle.sweep_rules.specs.Run.{sweep}
use Rattle.sweep_rules.specs.Terms.{card_fits, all_fit, apart, within}
use Rattle.sweep_rules.proofs.Demand3.{demand3}
use Rattle.uid.specs.declared.UidSize.{UidSize}
use Rattle.uid.specs.declared.UidSize.TheVariants.{Single, Double, Triple}
use Rattle.card.specs.declared.Card.{Card}
use Rattle.card.specs.declared.CardState.{CardState}
use Rattle.card.specs.declared.CardState.TheVariants.{Idle, Halt}

abbrev card : UidSize → List ℕ → Bool → CardState → Card
card z l blocks y = record { uid = record { size = z; bytes = l }; blocks = blocks; index = 8; state = y }

abbrev pub field : List Card
field =
    card Single (0x11 ∷ 0x22 ∷ 0x33 ∷ 0x44 ∷ 0 ∷ 0 ∷ 0 ∷ 0 ∷ 0 ∷ 0 ∷ []) true Idle
    ∷ card Double (0x04 ∷ 0xA1 ∷ 0xB2 ∷ 0xC3 ∷ 0xD4 ∷ 0xE5 ∷ 0xF6 ∷ 0 ∷ 0 ∷ 0 ∷ []) false Idle
    ∷ card Single (0x11 ∷ 0x22 ∷ 0x33 ∷ 0x45 ∷ 0 ∷ 0 ∷ 0 ∷ 0 ∷ 0 ∷ 0 ∷ []) true Halt
    ∷ card Triple (0x04 ∷ 0xA1 ∷ 0xB2 ∷ 0x88 ∷ 0x01 ∷ 0x02 ∷ 0x88 ∷ 0x03 ∷ 0x04 ∷ 0x05 ∷ []) true Idle
    ∷ []

pub typed : All Typed field
typed = (
  record { ten = refl; bytes = search arith },
  (
    record { ten = refl; bytes = search arith },
    (
      record { ten = refl; bytes = search arith },
      (record { ten = refl; bytes = search arith }, tt),
    ),
  ),
)

pub meets : within field ≡ true
unfolding within all_fit card_fits apart any same valid uid_bytes
meets = refl

pub swept : Demand3 field (sweep field)
swept = demand3 field typed meets
