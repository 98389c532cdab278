-- The terms of demand 3 hold exactly where the call of a sweep declines nothing, and a field of the full number of cards meets them.
-- Assumes nothing.
use mathlib.Core.Path.{◌≡◌, refl, ap}
use Prim.Native.Nat.{ℕ, zero, suc, ◌≤◌}
use mathlib.Core.Bool.{Bool, true, false, not, ◌||◌, true≢false}
use mathlib.Core.List.{List, [], ◌∷◌}
use lib.Dec.{ltb}
use lib.ListN.{length, take, replicate, length-replicate}
use native.Mathlib.Omega.{arith}
use borrow.Author.Tests.{le-ltb, ltb-false, not-false}
use Rattle.limits.specs.Limits.{most_cards, log_room, list_room}
use Rattle.rows.specs.Rows.{All, any, same}
use Rattle.uid.specs.Uid.{valid, uid_bytes}
use Rattle.reader.specs.Calls.{turn_says}
use Rattle.reader.specs.Reader.{blank, is_new}
use Rattle.refusal.specs.Refusal.{Said, decline_if}
use Rattle.sweep_rules.specs.Demand.{Typed, Demand3}
use Rattle.sweep_rules.specs.Run.{sweep}
use Rattle.sweep_rules.specs.Terms.{card_fits, all_fit, apart, within}
use Rattle.sweep_rules.proofs.Demand3.{demand3}
use Rattle.sweep.specs.Promise.{Terms, sweep_says}
use Rattle.uid.specs.declared.UidSize.TheVariants.{Single}
use Rattle.card.specs.declared.Card.{Card}
use Rattle.card.specs.declared.CardState.TheVariants.{Idle}
use Rattle.reader.specs.declared.Phase.TheVariants.{New}
use Rattle.sweep.specs.declared.Start.{Start}

-- ---- exactly there

or_false : (a b : Bool) → (a || b) ≡ false → (a ≡ false) × (b ≡ false)
or_false false false e = (refl, refl)
or_false false true e = absurd (true≢false e)
or_false true b e = absurd (true≢false e)

module _ (s₀ : Start) (cards : List Card) (n : ℕ) (log list : List ℕ) where
  tests_passed : (a b c : Bool) (s : Said) → (decline_if a 11 (decline_if b 1 (decline_if c 6 s))).number ≡ 0 → (a ≡ false) × (b ≡ false) × (c ≡ false)
  tests_passed true b c s e = absurd (omega arith)
  tests_passed false true c s e = absurd (omega arith)
  tests_passed false false true s e = absurd (omega arith)
  tests_passed false false false s e = (refl, refl, refl)

  -- where the tests of a call decline nothing the terms hold, whatever it says then
  pub terms_passed : (s : Said) → (decline_if (not (is_new s₀.reader.phase)) 11 (decline_if (ltb (length log) log_room || ltb (length list) list_room) 1
      (decline_if (ltb most_cards n || not (within (take n cards))) 6 s))).number ≡ 0 → Terms s₀ cards n log list
  terms_passed s e =
      let p = tests_passed (not (is_new s₀.reader.phase)) (ltb (length log) log_room || ltb (length list) list_room) (ltb most_cards n || not (within (take n cards))) s e in
      let room = or_false (ltb (length log) log_room) (ltb (length list) list_room) p.1 in
      let field = or_false (ltb most_cards n) (not (within (take n cards))) p.2 in
      record {
        new = not-false (is_new s₀.reader.phase) p.0;
        log_has_room = ltb-false (length log) log_room room.0;
        list_has_room = ltb-false (length list) list_room room.1;
        few = ltb-false most_cards n field.0;
        field = not-false (within (take n cards)) field.1;
      }

  pub terms_if : (sweep_says s₀ cards n log list).number ≡ 0 → Terms s₀ cards n log list
  terms_if e = terms_passed (turn_says (sweep (take n cards)).last) e

  -- .. and where they hold nothing is
  pub terms_then : All Typed (take n cards) → Terms s₀ cards n log list → (sweep_says s₀ cards n log list).number ≡ 0
  terms_then typed t =
      rw (t.new, le-ltb (length log) log_room t.log_has_room, le-ltb (length list) list_room t.list_has_room, le-ltb most_cards n t.few, t.field)
      (ap (λ x. (turn_says x).number) (demand3 (take n cards) typed t.field).finished)

-- ---- a wall of cards, each with a UID of its own, all idle

abbrev card_of : ℕ → Card
card_of k = record { uid = record { size = Single; bytes = k ∷ 0x51 ∷ 0x52 ∷ 0x53 ∷ 0 ∷ 0 ∷ 0 ∷ 0 ∷ 0 ∷ 0 ∷ [] }; blocks = true; index = 8; state = Idle }

pub wall : ℕ → List Card
wall zero = []
wall (suc k) = card_of k ∷ wall k

typed_wall : (n : ℕ) → n ≤ 256 → All Typed (wall n)
unfolding wall
typed_wall zero h = tt
typed_wall (suc k) h = (record { ten = refl; bytes = search arith }, typed_wall k (omega arith))

-- the full number of them meets the terms, with any starting tick, and so demand 3 speaks of such a field
pub full_terms : (t : ℕ) → Terms (record { reader = blank New false; tick = t }) (wall most_cards) most_cards (replicate log_room 0) (replicate list_room 0)
unfolding wall within all_fit card_fits apart any same valid uid_bytes
full_terms t = record {
  new = refl;
  log_has_room = rw length-replicate (omega arith);
  list_has_room = rw length-replicate (omega arith);
  few = omega arith;
  field = refl;
}

pub full_swept : Demand3 (wall most_cards) (sweep (wall most_cards))
unfolding wall
full_swept = demand3 (wall most_cards) (typed_wall most_cards (omega arith)) (full_terms 0).field
