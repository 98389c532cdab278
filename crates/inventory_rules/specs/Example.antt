-- The claim's terms can be met, and what comes of it by value: three tags, of which two share their lowest half byte, and one that is quiet. Assumes nothing.
use Rattle.std.specs.Prelude.{refl, ℕ, ◌<◌, false, List, [], ◌∷◌}
use Rattle.std.proofs.Common.{arith}
use Rattle.rows.specs.Rows.{any, same}
use Rattle.request_v.specs.declared.Tag.{Tag}
use Rattle.request_v.specs.declared.StateV.{StateV}
use Rattle.request_v.specs.declared.StateV.TheVariants.{Ready, Quiet}
use Rattle.inventory_rules.specs.Claim.{Typed, apart}
use Rattle.inventory_rules.specs.Sweep.{Terms}

abbrev tag : ℕ → StateV → Tag
tag low y = record { uid = low ∷ 0x00 ∷ 0x00 ∷ 0x00 ∷ 0x00 ∷ 0x01 ∷ 0x04 ∷ 0xE0 ∷ []; dsfid = 0; supports = false; afi = 0; blocks = 4; size = 4; state = y }

abbrev four : List Tag
four = tag 0x11 (Ready 0) ∷ tag 0x21 (Ready 0) ∷ tag 0x12 (Ready 0) ∷ tag 0x13 Quiet ∷ []

typed : (low : ℕ) (y : StateV) → low < 256 → Typed (tag low y)
typed low y h = record { eight = refl; bytes = (h, (omega arith, (omega arith, (omega arith, (omega arith, (omega arith, (omega arith, (omega arith, tt)))))))); dsfid = omega arith }

pub terms_met : Terms 0 four
unfolding apart any same
terms_met = record {
  afi_byte = omega arith;
  typed = (typed 0x11 (Ready 0) (omega arith), (typed 0x21 (Ready 0) (omega arith), (typed 0x12 (Ready 0) (omega arith), (typed 0x13 Quiet (omega arith), tt))));
  rest = (refl, (refl, (refl, (refl, tt))));
  different = refl;
}
