-- What the claim asks can be met, both ways: in sweep_rules' field, in which two cards share their first level and one is halted, that one is woken,
-- and one of the two; a UID that shares its first level with both is not there; and an empty field has none. Assumes nothing.
use mathlib.Core.Path.{◌≡◌, refl, sym, ◌∙◌}
use mathlib.Core.Logic.{◌≢◌}
use Prim.Native.Nat.{ℕ}
use mathlib.Core.Bool.{true, false, true≢false}
use mathlib.Core.List.{List, [], ◌∷◌}
use lib.ListN.{take, drop, get_or}
use native.Mathlib.Omega.{arith}
use Rattle.rows.specs.ListLaws.{same_eq}
use Rattle.rows.specs.Rows.{All, same}
use Rattle.uid.specs.Uid.{valid, uid_bytes}
use Rattle.sweep_rules.specs.Terms.{all_fit, apart, within}
use Rattle.sweep_rules.proofs.Example.{field, typed, meets}
use Rattle.wake_rules.specs.Wake.{wake}
use Rattle.wake_rules.specs.Claim.{Typed, Chosen, Absent}
use Rattle.wake_rules.proofs.Claimed.{claim}
use Rattle.uid.specs.declared.Uid.{Uid}
use Rattle.uid.specs.declared.UidSize.TheVariants.{Single, Double}
use Rattle.card.specs.declared.Card.{Card}

abbrev single : ℕ → Uid
single last = record { size = Single; bytes = 0x11 ∷ 0x22 ∷ 0x33 ∷ last ∷ 0 ∷ 0 ∷ 0 ∷ 0 ∷ 0 ∷ 0 ∷ [] }

abbrev double : ℕ → Uid
double last = record { size = Double; bytes = 0x04 ∷ 0xA1 ∷ 0xB2 ∷ 0xC3 ∷ 0xD4 ∷ 0xE5 ∷ last ∷ 0 ∷ 0 ∷ 0 ∷ [] }

typed_single : Typed (single 0x45)
typed_single = record { ten = refl; bytes = search arith }

typed_double : Typed (double 0xF6)
typed_double = record { ten = refl; bytes = search arith }

typed_other : Typed (double 0xF7)
typed_other = record { ten = refl; bytes = search arith }

abbrev at : ℕ → Card
at i = get_or field i (record { uid = single 0; blocks = false; index = 0; state = Rattle.card.specs.declared.CardState.TheVariants.Off })

pub woken_halted : Chosen (take 2 field) (at 2) (drop 3 field) (single 0x45) (wake (single 0x45) field)
woken_halted = (claim field typed meets (single 0x45) typed_single (unfold valid in refl)).there (take 2 field) (at 2) (drop 3 field) refl refl

pub woken_idle : Chosen (take 1 field) (at 1) (drop 2 field) (double 0xF6) (wake (double 0xF6) field)
woken_idle = (claim field typed meets (double 0xF6) typed_double (unfold valid in refl)).there (take 1 field) (at 1) (drop 2 field) refl refl

differ : (x y : List ℕ) → same x y ≡ false → x ≢ y
differ x y e q = true≢false (sym (same_eq x y q) ∙ e)

none_has : All (λ c. uid_bytes c.uid ≢ uid_bytes (double 0xF7)) field
unfolding same uid_bytes
none_has = (differ _ _ refl, (differ _ _ refl, (differ _ _ refl, (differ _ _ refl, tt))))

pub not_there : Absent field (double 0xF7) (wake (double 0xF7) field)
not_there = (claim field typed meets (double 0xF7) typed_other (unfold valid in refl)).absent none_has

pub empty_field : Absent [] (double 0xF6) (wake (double 0xF6) [])
unfolding within all_fit apart
empty_field = (claim [] tt refl (double 0xF6) typed_double (unfold valid in refl)).absent tt
