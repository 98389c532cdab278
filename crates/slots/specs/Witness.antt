-- The claim's terms can be met, and so can those of the call: two cards, idle, in slots 1 and 2 of 2. What comes of it by value stands in
-- slots_rules/specs/Example.antt. Assumes nothing.
use Rattle.std.specs.Prelude.{refl, ℕ, true, List, [], ◌∷◌, replicate}
use Rattle.std.proofs.Common.{arith}
use Rattle.std.proofs.lemmas.List.{length-replicate}
use Rattle.rows.specs.Rows.{any, same}
use Rattle.frame_b.specs.LimitsB.{list_room_b}
use Rattle.selection_b.specs.TypeB.{is_slots}
use Rattle.selection_b.specs.TakenB.{admits}
use Rattle.reader_b.specs.ReaderB.{blank}
use Rattle.slots_rules.specs.Claim.{Terms}
use Rattle.slots_rules.specs.TermsB.{apart}
use Rattle.slots.specs.Promise as promise
use Rattle.card_b.specs.declared.StateB.TheVariants.{Idle}
use Rattle.reader_b.specs.declared.PhaseB.TheVariants.{Ready}
use Rattle.field_b.specs.declared.Drawn.{Drawn}

abbrev card : ℕ → ℕ → Drawn
card first number = record {
  card = record { pupi = first ∷ 0x22 ∷ 0x33 ∷ 0x44 ∷ []; afi = 0x21; markers = true; application = 0 ∷ 0 ∷ 0 ∷ 0 ∷ []; protocol = 0x00 ∷ 0x81 ∷ 0x81 ∷ []; state = Idle };
  number = number;
}

abbrev two : List Drawn
two = card 0x11 1 ∷ card 0x99 2 ∷ []

pub terms_met : Terms 2 0x20 two
unfolding is_slots admits apart any same
terms_met = record {
  slots = refl;
  all = (
    record { idle = refl; admitted = refl; marked = refl; least = omega arith; most = omega arith },
    (record { idle = refl; admitted = refl; marked = refl; least = omega arith; most = omega arith }, tt),
  );
  different = refl;
}

pub call_terms_met : promise.Terms (blank Ready) 2 0x20 two 2 (replicate list_room_b 0)
call_terms_met = record { ready = refl; room = omega (arith, length-replicate {A = ℕ} list_room_b 0); few = omega arith; field = terms_met }
