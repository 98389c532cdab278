-- One tag through a round: the request, 15 EOFs, and it is what it was. Assumes nothing.
use Rattle.std.specs.Prelude.{◌≡◌, ℕ, ◌+◌, ◌-◌, ◌≤◌, ◌<◌, Bool, length, take, drop}
use Rattle.std.proofs.Math.Path.{refl, ap}
use Rattle.std.proofs.Common.{sym, length-take}
use native.Mathlib.Omega.{arith}
use Rattle.std.proofs.Math.Bool.{true, false, cond}
use Rattle.std.proofs.lemmas.Bool.{false≢true}
use mathlib.Core.List.{List, []}
use Rattle.std.proofs.Math.Dec.{eqb}
use borrow.Author.Tests.{eq-eqb, ne_eqb, eqb-true, eqb-false}
use Rattle.rows.specs.ListLaws.{all_take_law, all_drop}
use Rattle.parity.specs.BitLaws.{unbits_lt}
use Rattle.frame.specs.Frame.{air_bits}
use Rattle.frame.specs.ByteLaws.{bits_air_bits}
use Rattle.frame_b.specs.FrameB.{frame_b}
use Rattle.request_v.specs.Flags.{listens}
use Rattle.request_v.specs.Inventory.{slot_of, turn_in}
use Rattle.tag.specs.Tag.{with_state, waiting, waits, state_after, told, row_of, takes, answers, takes_eof, answers_eof}
use Rattle.request_v.specs.declared.Tag.{Tag}
use Rattle.request_v.specs.declared.StateV.{StateV}
use Rattle.request_v.specs.declared.StateV.TheVariants.{Off, Ready, Quiet, Selected}
use Rattle.request_v.specs.declared.Deed.TheVariants.{Nothing}
use Rattle.sent_v.specs.declared.Round.{Round}
use Rattle.reader_v.specs.CallsV.{round_for, round_frame}
use Rattle.inventory_rules.specs.Claim.{rests, takes_part, place}
use Rattle.inventory_rules.specs.InRound.{left, in_round}
use Rattle.inventory_rules.specs.RequestLaws.{round_deed}

-- ---- slots

pub slot_lt : (uid : List ℕ) (len : ℕ) → slot_of uid len < 16
unfolding slot_of
slot_lt uid len = unbits_lt 4 (take 4 (drop len (air_bits uid))) (all_take_law (λ x. x < 2) 4 (drop len (air_bits uid)) (all_drop (λ x. x < 2) len (air_bits uid) (bits_air_bits uid))) (rw length-take (omega arith))

-- a tag that does not listen takes no part
place_silent : (k : Round) (t : Tag) → listens t.state ≡ false → place k t ≡ 16
unfolding place takes_part
place_silent k t e = rw e

pub place_most : (k : Round) (t : Tag) → place k t ≤ 16
unfolding place
place_most k t = go (takes_part k t)
  where
    go : (b : Bool) → cond b (slot_of t.uid k.len) 16 ≤ 16
    go true = omega (arith, slot_lt t.uid k.len)
    go false = omega arith

-- ---- states

waits_left : (y : StateV) (n : ℕ) → (listens y ≡ false → n ≡ 0) → waits (waiting n y) ≡ n
waits_left Off n h = sym (h refl)
waits_left (Ready w) n h = refl
waits_left Quiet n h = sym (h refl)
waits_left (Selected w) n h = refl

waiting_again : (y : StateV) (m n : ℕ) → waiting m (waiting n y) ≡ waiting m y
waiting_again Off m n = refl
waiting_again (Ready w) m n = refl
waiting_again Quiet m n = refl
waiting_again (Selected w) m n = refl

waiting_none : (y : StateV) → rests y ≡ true → waiting 0 y ≡ y
waiting_none Off e = refl
waiting_none (Ready w) e = ap Ready (sym (eqb-true w 0 e))
waiting_none Quiet e = refl
waiting_none (Selected w) e = absurd (false≢true e)

left_silent : (k : Round) (t : Tag) (s : ℕ) → listens t.state ≡ false → left s (place k t) ≡ 0
unfolding left
left_silent k t s e = rw (place_silent k t e)

-- ---- the request

-- by a deed of an inventory: b, it takes part; its slot p
deed_state : (b : Bool) (p : ℕ) (y : StateV) → p < 16 → state_after (cond b (turn_in false p) Nothing) y ≡ waiting (left 0 (cond b p 16)) y
unfolding left
deed_state true p y h = go (eqb p 0) refl
  where
    go : (z : Bool) → eqb p 0 ≡ z → state_after (turn_in false p) y ≡ waiting (cond (eqb p 16) 0 (p - 0)) y
    go true e = rw (eqb-true p 0 e)
    go false e = let d : p - 0 ≡ p = omega arith in rw (e, ne_eqb p 16 (λ q. omega arith), d)
deed_state false p y h = refl

deed_row : (b : Bool) (p : ℕ) (t : Tag) → row_of t [] [] (cond b (turn_in false p) Nothing) ≡ cond (eqb (cond b p 16) 0) (frame_b (told t)) []
unfolding row_of
deed_row true p t = go (eqb p 0) refl
  where
    go : (z : Bool) → eqb p 0 ≡ z → row_of t [] [] (turn_in false p) ≡ cond (eqb p 0) (frame_b (told t)) []
    go true e = rw e
    go false e = rw e
deed_row false p t = refl

module _ (asks : Bool) (afi len : ℕ) (mask : List ℕ) (ha : afi < 256) (h : len ≤ 60) (e : length mask ≡ 8) (t : Tag) where
  pub takes_request : takes t [] (round_frame (round_for false asks afi len mask)) ≡ in_round (round_for false asks afi len mask) 0 t
  unfolding takes in_round place
  takes_request = rw (round_deed afi len mask ha h e t asks) (ap (with_state t) (deed_state (takes_part (round_for false asks afi len mask) t) (slot_of t.uid len) t.state (slot_lt t.uid len)))

  pub answers_request : answers t [] [] (round_frame (round_for false asks afi len mask)) ≡ cond (eqb (place (round_for false asks afi len mask) t) 0) (frame_b (told t)) []
  unfolding answers place
  answers_request = rw (round_deed afi len mask ha h e t asks) (deed_row (takes_part (round_for false asks afi len mask) t) (slot_of t.uid len) t)

-- ---- an EOF

module _ (k : Round) (t : Tag) (s : ℕ) where
  waits_now : waits (in_round k s t).state ≡ left s (place k t)
  unfolding in_round
  waits_now = waits_left t.state (left s (place k t)) (left_silent k t s)

  left_less : left s (place k t) - 1 ≡ left (s + 1) (place k t)
  unfolding left
  left_less = go (eqb (place k t) 16)
    where
      go : (b : Bool) → cond b 0 (place k t - s) - 1 ≡ cond b 0 (place k t - (s + 1))
      go true = refl
      go false = omega arith

  pub takes_eof_law : takes_eof (in_round k s t) ≡ in_round k (s + 1) t
  unfolding takes_eof
  takes_eof_law =
      rw (waits_now, left_less)
      (unfold in_round in ap (with_state t) (waiting_again t.state (left (s + 1) (place k t)) (left s (place k t))))

  pub answers_eof_law : s < 15 → answers_eof (in_round k s t) ≡ cond (eqb (place k t) (s + 1)) (frame_b (told t)) []
  unfolding answers_eof
  answers_eof_law h = rw waits_now (unfold left in_round in go (eqb (place k t) 16) refl (eqb (place k t) (s + 1)) refl)
    where
      go : (b : Bool) → eqb (place k t) 16 ≡ b → (d : Bool) → eqb (place k t) (s + 1) ≡ d → cond (eqb (cond b 0 (place k t - s)) 1) (frame_b (told t)) [] ≡ cond d (frame_b (told t)) []
      go true p true q = absurd (omega (arith, eqb-true (place k t) 16 p, eqb-true (place k t) (s + 1) q))
      go true p false q = refl
      go false p true q = rw (eq-eqb (place k t - s) 1 (omega (arith, eqb-true (place k t) (s + 1) q)))
      go false p false q = rw (ne_eqb (place k t - s) 1 (λ z. eqb-false (place k t) (s + 1) q (omega arith)))

-- the last slot is over
pub round_over_law : (k : Round) (t : Tag) → rests t.state ≡ true → in_round k 15 t ≡ t
unfolding in_round left
round_over_law k t e = go (eqb (place k t) 16) refl
  where
    go : (b : Bool) → eqb (place k t) 16 ≡ b → with_state t (waiting (cond b 0 (place k t - 15)) t.state) ≡ t
    go true p = ap (with_state t) (waiting_none t.state e)
    go false p =
        let z : place k t - 15 ≡ 0 = omega (arith, place_most k t, eqb-false (place k t) 16 p) in
        rw z (ap (with_state t) (waiting_none t.state e))
