-- The cards of a field in the course of a request: what each does with the request and with each marker. Assumes nothing.
use Rattle.std.specs.Prelude.{◌≡◌, ◌≢◌, ℕ, suc, ◌≤◌, ◌<◌, Bool, cond, leb}
use Rattle.std.proofs.Math.Path.{refl, ap}
use Rattle.std.proofs.Common.{◌∙◌, arith}
use Rattle.std.proofs.Math.Bool.{true, false}
use mathlib.Core.List.{List, [], map, map-map}
use Rattle.std.proofs.Math.Dec.{eqb}
use borrow.Author.Tests.{le-leb, lt-leb, leb-true, leb-false, eqb-true, eqb-false}
use Rattle.rows.specs.EachLaws.{all_weaken}
use Rattle.rows.specs.ListLaws.{map_all}
use Rattle.rows.specs.Rows.{All}
use Rattle.selection_b.specs.TypeB.{Parts, is_slots, request, marker}
use Rattle.selection_b.specs.TakenB.{admits}
use Rattle.selection_b.specs.SlotsLaws.{slots_most}
use Rattle.card_b.specs.CardB.{atqb_of, with_state, requested, asked, other, rules, takes, answers}
use Rattle.card_b.specs.CardBLaws.{rules_request, own_marker, other_marker, declared_marker}
use Rattle.field.specs.Merge.{merge}
use Rattle.field_b.specs.FieldB.{with_card, takes_b, answers_b, all_take, heard_from}
use Rattle.slots_rules.proofs.SlotLaws.{atqb_row, sent}
use Rattle.card_b.specs.declared.CardB.{CardB}
use Rattle.card_b.specs.declared.StateB.{StateB}
use Rattle.card_b.specs.declared.StateB.TheVariants.{Off, Idle, Requested, Declared, Active, Halt}
use Rattle.field_b.specs.declared.Drawn.{Drawn}

-- a card within the terms
pub record Fits (n afi : ℕ) (d : Drawn) : Type 0 where
  pub idle : d.card.state ≡ Idle
  pub admitted : admits afi d.card.afi ≡ true
  pub marked : d.card.markers ≡ true
  pub least : 1 ≤ d.number
  pub most : d.number ≤ n
  pub parts : Parts d.card.pupi d.card.application d.card.protocol

-- the state of a card after slot s
unfoldable pub after : ℕ → ℕ → StateB
after s number = cond (leb number s) Declared (Requested number)

unfoldable pub at : ℕ → Drawn → Drawn
at s d = with_card d (with_state d.card (after s d.number))

-- the rules look at a card's state only where it is handed over
rules_state : (c : CardB) (x y : StateB) (number : ℕ) (f : List ℕ) → rules (with_state c x) y number f ≡ rules c y number f
unfolding rules asked requested other atqb_of
rules_state c x Off number f = refl
rules_state c x Idle number f = refl
rules_state c x (Requested s) number f = refl
rules_state c x Declared number f = refl
rules_state c x Active number f = refl
rules_state c x Halt number f = refl

module _ (wake : Bool) (n afi : ℕ) (good : is_slots n ≡ true) (byte : afi < 256) where
  -- the request, by an idle card
  first_step : (d : Drawn) → Fits n afi d → rules d.card d.card.state d.number (request wake n afi) ≡ (after 1 d.number, sent 1 d)
  unfolding requested after sent atqb_row
  first_step d h =
      ap (λ y. rules d.card y d.number (request wake n afi)) h.idle
      ∙ rules_request d.card Idle d.number wake n afi good byte refl h.least h.most h.admitted ∙ go (eqb d.number 1) refl
    where
      go : (b : Bool) → eqb d.number 1 ≡ b → requested d.card d.number ≡ (after 1 d.number, sent 1 d)
      go true e = rw (e, le-leb d.number 1 (omega (arith, eqb-true d.number 1 e)))
      go false e = rw (e, h.marked, lt-leb d.number 1 (omega (arith, eqb-false d.number 1 e, h.least)))

  -- the marker of the slot behind slot s
  next_step : (s : ℕ) (d : Drawn) → Fits n afi d → 1 ≤ s → s < n → rules d.card (after s d.number) d.number (marker (suc s)) ≡ (after (suc s) d.number, sent (suc s) d)
  unfolding after sent atqb_row
  next_step s d h a b = go (leb d.number s) refl (eqb d.number (suc s)) refl
    where
      c : CardB
      c = d.card

      k : ℕ
      k = d.number

      most : n ≤ 16
      most = slots_most n good

      go : (x : Bool) → leb k s ≡ x → (y : Bool) → eqb k (suc s) ≡ y → rules c (cond x Declared (Requested k)) k (marker (suc s)) ≡ (after (suc s) k, cond y (atqb_row c) [])
      go true p true q = absurd (omega (arith, leb-true k s p, eqb-true k (suc s) q))
      go true p false q = rw (le-leb k (suc s) (omega (arith, leb-true k s p))) (declared_marker c k (suc s) h.parts.four)
      go false p true q =
          let e : k ≡ suc s = eqb-true k (suc s) q in
          rw (le-leb k (suc s) (omega arith), ← e) (own_marker c k k (omega arith) (omega (arith, most, h.most)))
      go false p false q =
          let e : k ≢ suc s = eqb-false k (suc s) q in
          let l : s < k = leb-false k s p in
          rw (lt-leb k (suc s) (omega (arith, e))) (other_marker c k k (suc s) (omega arith) (omega (arith, most, h.most)) (omega arith) (omega (arith, most)) e)

  -- ---- every card of the field

  module _ (ds : List Drawn) (all : All (Fits n afi) ds) where
    pub first_cards : all_take (request wake n afi) ds ≡ map (at 1) ds
    unfolding all_take takes_b takes at
    first_cards = map_all (λ d. with_card d (takes d.card d.number (request wake n afi))) (at 1) ds
        (all_weaken {F = Fits n afi} ds (λ d h. ap (λ p. with_card d (with_state d.card p.0)) (first_step d h)) all)

    pub first_heard : heard_from (request wake n afi) ds ≡ merge (map (sent 1) ds)
    unfolding heard_from answers_b answers
    first_heard = ap merge (map_all (λ d. answers d.card d.number (request wake n afi)) (sent 1) ds
        (all_weaken {F = Fits n afi} ds (λ d h. ap (λ p. p.1) (first_step d h)) all))

    module _ (s : ℕ) (a : 1 ≤ s) (b : s < n) where
      step : (d : Drawn) → Fits n afi d → rules (at s d).card (at s d).card.state d.number (marker (suc s)) ≡ (after (suc s) d.number, sent (suc s) d)
      unfolding at
      step d h = rules_state d.card (after s d.number) (after s d.number) d.number (marker (suc s)) ∙ next_step s d h a b

      pub next_cards : all_take (marker (suc s)) (map (at s) ds) ≡ map (at (suc s)) ds
      unfolding all_take takes_b takes at
      next_cards = map-map (λ d. with_card d (takes d.card d.number (marker (suc s)))) (at s) ds
          ∙ map_all (λ d. with_card (at s d) (takes (at s d).card d.number (marker (suc s)))) (at (suc s)) ds
          (all_weaken {F = Fits n afi} ds (λ d h. ap (λ p. with_card d (with_state d.card p.0)) (step d h)) all)

      pub next_heard_law : heard_from (marker (suc s)) (map (at s) ds) ≡ merge (map (sent (suc s)) ds)
      unfolding heard_from answers_b answers at
      next_heard_law = ap merge (map-map (λ d. answers d.card d.number (marker (suc s))) (at s) ds
          ∙ map_all (λ d. answers (at s d).card d.number (marker (suc s))) (sent (suc s)) ds
          (all_weaken {F = Fits n afi} ds (λ d h. ap (λ p. p.1) (step d h)) all))

    -- after the last slot every card is declared
    pub last_cards : map (at n) ds ≡ map (λ d. with_card d (with_state d.card Declared)) ds
    unfolding at after
    last_cards = map_all (at n) (λ d. with_card d (with_state d.card Declared)) ds
        (all_weaken {F = Fits n afi} ds (λ d h. rw (le-leb d.number n h.most)) all)
