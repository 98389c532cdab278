-- What each state of a Type B card does with each frame, in the words of the standard; and that a damaged frame changes nothing. Assumes nothing.
use Rattle.std.specs.Prelude.{◌≡◌, ◌≢◌, Bool, true, false, cond, drop}
use Rattle.std.proofs.Math.Path.{refl, ap}
use Rattle.std.proofs.Common.{sym, ◌∙◌, true≢false, arith}
use Prim.Native.Nat.{ℕ, ◌<◌}
use Rattle.std.proofs.Math.Bool.{and-false}
use mathlib.Core.List.{List, [], ◌∷◌}
use Rattle.std.proofs.Math.ListN.{length}
use Rattle.rows.specs.ListLaws.{same_ne, same_eq}
use Rattle.rows.specs.Rows.{clean, Bytes}
use Rattle.frame.specs.Frame.{bytes_of}
use Rattle.frame.specs.ByteLaws.{length_bytes}
use Rattle.frame_b.specs.FrameB.{frame_b}
use Rattle.frame_b.specs.FrameBLaws.{clean_frame, length_frame}
use Rattle.selection_b.specs.TypeB.{is_slots, request, marker, attrib, hltb, done}
use Rattle.selection_b.proofs.TypeBLaws.{length_marker, length_attrib, length_hltb, requests, request_length, not_request, attrib_length, attrib_is, attrib_tells, hltb_tells}
use Rattle.selection_b.specs.TakenB.{afi_in, param_in, is_request, admits, is_marker, is_attrib}
use Rattle.card_b.specs.CardB.{Step, asked, other, rules}
use Rattle.card_b.specs.declared.CardB.{CardB}
use Rattle.card_b.specs.declared.StateB.{StateB}
use Rattle.card_b.specs.declared.StateB.TheVariants.{Off, Idle, Requested, Declared, Active, Halt}

-- a row that is none of a card's frames
pub record Unknown (c : CardB) (f : List ℕ) : Type 0 where
  pub no_request_law : f ≢ frame_b (0x05 ∷ afi_in f ∷ param_in f ∷ [])
  pub no_marker : (s : ℕ) → f ≢ marker s
  pub no_attrib : f ≢ attrib c.pupi (bytes_of 4 (drop 40 f))
  pub no_hltb : f ≢ hltb c.pupi

pub unknown_else : (c : CardB) (y : StateB) (number : ℕ) (f : List ℕ) → Unknown c f → rules c y number f ≡ (y, [])
unfolding rules
unknown_else c y number f h = rw (not_request f h.no_request_law) (go y)
  where
    go : (y : StateB) → other c y f ≡ (y, [])
    go Off = unfold other in refl
    go Idle = unfold other in refl
    go (Requested s) = unfold other is_marker in rw (same_ne f (marker s) (h.no_marker s), and-false)
    go Declared = unfold other is_attrib in rw (same_ne f (attrib c.pupi (bytes_of 4 (drop 40 f))) h.no_attrib, same_ne f (hltb c.pupi) h.no_hltb)
    go Active = unfold other in refl
    go Halt = unfold other in refl

-- a collided bit
pub collided_else : (c : CardB) (y : StateB) (number : ℕ) (f : List ℕ) → clean f ≡ false → rules c y number f ≡ (y, [])
unfolding marker attrib hltb
collided_else c y number f e = unknown_else c y number f (record { no_request_law = hurt _; no_marker = λ s. hurt _; no_attrib = hurt _; no_hltb = hurt _ })
  where
    hurt : (l : List ℕ) → f ≢ frame_b l
    hurt l q = true≢false (sym (clean_frame l) ∙ ap clean (sym q) ∙ e)

-- a length that none of them has
pub length_else : (c : CardB) (y : StateB) (number : ℕ) (f : List ℕ) → length c.pupi ≡ 4 → length f ≢ 40 → length f ≢ 24 → length f ≢ 88 → length f ≢ 56
    → rules c y number f ≡ (y, [])
length_else c y number f h a b d e = unknown_else c y number f (record {
  no_request_law = λ q. a (ap length q ∙ length_frame _);
  no_marker = λ s q. b (ap length q ∙ length_marker s);
  no_attrib = λ q. d (ap length q ∙ length_attrib c.pupi (bytes_of 4 (drop 40 f)) h (length_bytes 4 (drop 40 f)));
  no_hltb = λ q. e (ap length q ∙ length_hltb c.pupi h);
})

-- ---- "After ATTRIB's answer a card is silent"; so is one without power

pub active_silent : (c : CardB) (number : ℕ) (f : List ℕ) → rules c Active number f ≡ (Active, [])
unfolding rules asked other
active_silent c number f = go (is_request f)
  where
    go : (b : Bool) → ◌≡◌ {A = Step} (cond b (Active, []) (Active, [])) (Active, [])
    go true = refl
    go false = refl

pub off_silent : (c : CardB) (number : ℕ) (f : List ℕ) → rules c Off number f ≡ (Off, [])
unfolding rules asked other
off_silent c number f = go (is_request f)
  where
    go : (b : Bool) → ◌≡◌ {A = Step} (cond b (Off, []) (Off, [])) (Off, [])
    go true = refl
    go false = refl

-- ---- requests

-- one whose AFI does not admit the card changes nothing
pub not_admitted : (c : CardB) (y : StateB) (number : ℕ) (w : Bool) (n a : ℕ) → is_slots n ≡ true → a < 256 → admits a c.afi ≡ false → rules c y number (request w n a) ≡ (y, [])
unfolding rules asked
not_admitted c y number w n a e h m =
    let q = requests w n a e h in
    rw (q.is, q.woken, q.slots, q.asked, m, and-false, and-false)

-- REQB leaves a halted card halted
pub halted_reqb : (c : CardB) (number n a : ℕ) → is_slots n ≡ true → a < 256 → rules c Halt number (request false n a) ≡ (Halt, [])
unfolding rules asked
halted_reqb c number n a e h = let q = requests false n a e h in rw (q.is, q.woken)

-- ---- ATTRIB and HLTB, by a card that has answered the request

not_so : (b : Bool) → (b ≡ true → ⊥) → b ≡ false
not_so true n = absurd (n refl)
not_so false n = refl

module _ (c : CardB) (h : length c.pupi ≡ 4) (b : Bytes c.pupi) (number : ℕ) where
  pub own_attrib : (q : List ℕ) → length q ≡ 4 → Bytes q → rules c Declared number (attrib c.pupi q) ≡ (Active, done)
  unfolding rules other
  own_attrib q k d = rw (request_length (attrib c.pupi q) (λ e. omega (arith, e, length_attrib c.pupi q h k)), attrib_is c.pupi q h k d)

  pub own_hltb : rules c Declared number (hltb c.pupi) ≡ (Halt, done)
  unfolding rules other
  own_hltb =
      let f : List ℕ = hltb c.pupi in
      rw (request_length f (λ e. omega (arith, e, length_hltb c.pupi h)), attrib_length c.pupi f h (λ e. omega (arith, e, length_hltb c.pupi h)), same_eq f f refl)

  -- another's
  pub other_attrib : (p q : List ℕ) → length p ≡ 4 → Bytes p → length q ≡ 4 → Bytes q → c.pupi ≢ p → rules c Declared number (attrib p q) ≡ (Declared, [])
  unfolding rules other
  other_attrib p q hp bp hq bq n =
      let f : List ℕ = attrib p q in
      let l : length f ≡ 88 = length_attrib p q hp hq in
      rw (
        request_length f (λ e. omega arith),
        not_so (is_attrib c.pupi f) (λ e. n (attrib_tells c.pupi p q h b hp bp bq e)),
        same_ne f (hltb c.pupi) (λ e. omega (arith, ap length e, length_hltb c.pupi h)),
      )

  pub other_hltb : (p : List ℕ) → length p ≡ 4 → Bytes p → c.pupi ≢ p → rules c Declared number (hltb p) ≡ (Declared, [])
  unfolding rules other
  other_hltb p hp bp n =
      let f : List ℕ = hltb p in
      let l : length f ≡ 56 = length_hltb p hp in
      rw (
        request_length f (λ e. omega arith),
        attrib_length c.pupi f h (λ e. omega arith),
        same_ne f (hltb c.pupi) (λ e. n (sym (hltb_tells p c.pupi bp b e))),
      )
