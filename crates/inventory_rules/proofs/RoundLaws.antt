-- A whole round over a field: each slot is told as its tags make it, and every tag is what it was. Assumes nothing.
use Rattle.std.specs.Prelude.{◌≡◌, Bool, ◌&&◌, length, set, eqb}
use Rattle.std.proofs.Math.Path.{refl, ap}
use Rattle.std.proofs.Common.{◌∙◌, zero-add, add-one, lt-ltb, ne_eqb}
use Prim.Native.Nat.{ℕ, zero, suc, ◌+◌, ◌≤◌, ◌<◌}
use native.Mathlib.Omega.{arith}
use Rattle.std.proofs.Math.Bool.{true, false, cond}
use mathlib.Core.List.{List, [], ◌∷◌, map}
use Rattle.std.proofs.Math.Dec.{ltb}
use Rattle.rows.specs.Rows.{All}
use Rattle.field.specs.Merge.{merge}
use Rattle.frame_b.specs.FrameB.{frame_b}
use Rattle.tag.specs.Tag.{told, takes, answers, takes_eof, answers_eof}
use Rattle.answer_v.specs.Heard.{read_slot}
use Rattle.reader_v.specs.Met.{flags, first_met}
use Rattle.reader_v.specs.ReaderV as rules
use Rattle.reader_v.specs.ReaderV.{hear, hear_slot, slot_turn, met_after, telling, next_slot, finished, is_deep, turn_of}
use Rattle.reader_v.specs.CallsV.{round_for, round_frame}
use Rattle.sent_v.specs.declared.Round.{Round}
use Rattle.request_v.specs.declared.Tag.{Tag}
use Rattle.reader_v.specs.declared.PhaseV.TheVariants.{Ready, InSweep}
use Rattle.reader_v.specs.declared.ReaderV.{ReaderV}
use Rattle.reader_v.specs.declared.AnswerR.TheVariants.{NextSlot, NextRound, Ends}
use Rattle.reader_v.specs.declared.TurnV.{TurnV}
use Rattle.inventory_rules.specs.RunV.{Told, before, ended, heard_of, tags_after, follow, run}
use Rattle.inventory_rules.specs.Claim.{rests, in_slot, told_of, slots_from, place}
use Rattle.inventory_rules.specs.InRound.{in_round}
use Rattle.inventory_rules.specs.TagLaws.{takes_request, answers_request, takes_eof_law, answers_eof_law, round_over_law}
use Rattle.inventory_rules.proofs.SlotLaws.{row, sent, slot_v, awaited}
use Rattle.inventory_rules.specs.Rounds.{phase_of, reader_at, tags_at, befores, met_by, met_from, after}

module _ (sweeps asks : Bool) (afi len : ℕ) (mask : List ℕ) (ha : afi < 256) (hl : len ≤ 60) (hm : length mask ≡ 8) (ts : List Tag) where
  -- ---- the tags from slot to slot

  tags_next : (s : ℕ) (m : List ℕ) → tags_after (reader_at sweeps (round_for false asks afi len mask) s m) (tags_at (round_for false asks afi len mask) s ts) ≡ tags_at (round_for false asks afi len mask) (suc s) ts
  unfolding tags_after tags_at
  tags_next zero m = map_same ts
    where
      map_same : (l : List Tag) → map (λ t. takes t [] (round_frame (round_for false asks afi len mask))) l ≡ map (in_round (round_for false asks afi len mask) 0) l
      map_same [] = refl
      map_same (t ∷ l) = cc (takes_request asks afi len mask ha hl hm t, map_same l)
  tags_next (suc s) m = rw (ne_eqb (suc s) 0 (λ z. omega arith)) (map_same ts)
    where
      map_same : (l : List Tag) → map takes_eof (map (in_round (round_for false asks afi len mask) s) l) ≡ map (in_round (round_for false asks afi len mask) (suc s)) l
      map_same [] = refl
      map_same (t ∷ l) = cc (rw (add-one) at (takes_eof_law (round_for false asks afi len mask) t s), map_same l)

  -- what they send
  sent_in_law : (s : ℕ) (m : List ℕ) → s < 16 → heard_of (reader_at sweeps (round_for false asks afi len mask) s m) (tags_at (round_for false asks afi len mask) s ts) ≡ merge (map (sent (round_for false asks afi len mask) s) ts)
  unfolding heard_of tags_at sent row
  sent_in_law zero m h = ap merge (map_same ts)
    where
      map_same : (l : List Tag) → map (λ t. answers t [] [] (round_frame (round_for false asks afi len mask))) l ≡ map (λ t. cond (eqb (place (round_for false asks afi len mask) t) 0) (frame_b (told t)) []) l
      map_same [] = refl
      map_same (t ∷ l) = cc (answers_request asks afi len mask ha hl hm t, map_same l)
  sent_in_law (suc s) m h = rw (ne_eqb (suc s) 0 (λ z. omega arith)) (ap merge (map_same ts))
    where
      map_same : (l : List Tag) → map answers_eof (map (in_round (round_for false asks afi len mask) s) l) ≡ map (λ t. cond (eqb (place (round_for false asks afi len mask) t) (suc s)) (frame_b (told t)) []) l
      map_same [] = refl
      map_same (t ∷ l) = cc (rw (add-one) at (answers_eof_law (round_for false asks afi len mask) t s (omega arith)), map_same l)

  -- behind the last slot they are what they were
  pub tags_over : All (λ t. rests t.state ≡ true) ts → tags_at (round_for false asks afi len mask) 16 ts ≡ ts
  unfolding tags_at
  tags_over a = over ts a
    where
      over : (l : List Tag) → All (λ t. rests t.state ≡ true) l → map (in_round (round_for false asks afi len mask) 15) l ≡ l
      over [] h = refl
      over (t ∷ l) h = cc (round_over_law (round_for false asks afi len mask) t h.0, over l h.1)

  -- ---- the reader

  -- what is heard in every slot of this round
  abbrev pub Hears : Type 0
  Hears = (s : ℕ) → s < 16 → read_slot (awaited (round_for false asks afi len mask) (is_deep sweeps len) s) (merge (map (sent (round_for false asks afi len mask) s) ts)) ≡ slot_v (told_of (in_slot (round_for false asks afi len mask) s ts))

  abbrev held : ℕ → Told
  held s = told_of (in_slot (round_for false asks afi len mask) s ts)

  hear_told : (s : ℕ) (m h : List ℕ) → read_slot (awaited (round_for false asks afi len mask) (is_deep sweeps len) s) h ≡ slot_v (held s)
      → hear (reader_at sweeps (round_for false asks afi len mask) s m) h ≡ rules.told sweeps (reader_at sweeps (round_for false asks afi len mask) s m) (held s).held (slot_v (held s))
  unfolding hear hear_slot
  hear_told s m h e = go sweeps e
    where
      go : (b : Bool) → read_slot (awaited (round_for false asks afi len mask) (is_deep b len) s) h ≡ slot_v (held s)
          → rules.hear_in (phase_of b) (reader_at b (round_for false asks afi len mask) s m) h ≡ rules.told b (reader_at b (round_for false asks afi len mask) s m) (held s).held (slot_v (held s))
      go true e = ap (λ x. slot_turn true (reader_at true (round_for false asks afi len mask) s m) x.says x) e
      go false e = ap (λ x. slot_turn false (reader_at false (round_for false asks afi len mask) s m) x.says x) e

  -- a slot that is not the last
  told_next : (s : ℕ) (m : List ℕ) → s < 15
      → rules.told sweeps (reader_at sweeps (round_for false asks afi len mask) s m) (held s).held (slot_v (held s))
      ≡ telling (reader_at sweeps (round_for false asks afi len mask) (s + 1) (met_by sweeps (round_for false asks afi len mask) ts s m)) (NextSlot (held s).held) (slot_v (held s))
  unfolding rules.told met_after met_by
  told_next s m h = rw (lt-ltb s 15 h)

  -- the last
  told_last : (m : List ℕ)
      → rules.told sweeps (reader_at sweeps (round_for false asks afi len mask) 15 m) (held 15).held (slot_v (held 15))
      ≡ finished sweeps (reader_at sweeps (round_for false asks afi len mask) 15 m) (held 15).held (slot_v (held 15)) (met_by sweeps (round_for false asks afi len mask) ts 15 m)
  unfolding rules.told met_after met_by
  told_last m = refl

  -- what follows it
  follow_last : (n m : List ℕ) (us : List Tag) (fuel : ℕ) (x : Told)
      → (t : TurnV) → t ≡ finished sweeps (reader_at sweeps (round_for false asks afi len mask) 15 n) x.held (slot_v x) m
      → follow t.answer t us (run fuel t.reader us) ≡ before x (after sweeps (round_for false asks afi len mask) m fuel us)
  unfolding finished after
  follow_last n m us fuel x t e = rw e (go (sweeps && ltb (first_met m) flags))
    where
      K : Round
      K = round_for false asks afi len mask

      T : Bool → TurnV
      T b = cond b (telling (rules.at_round InSweep (rules.round_of K (first_met m)) (set m (first_met m) 0)) (NextRound x.held) (slot_v x)) (telling (rules.blank Ready) (Ends x.held) (slot_v x))

      go : (b : Bool) → follow (T b).answer (T b) us (run fuel (T b).reader us)
          ≡ before x (cond b (run fuel (rules.at_round InSweep (rules.round_of K (first_met m)) (set m (first_met m) 0)) us) (ended us (rules.blank Ready) 0))
      go true = refl
      go false = refl

  -- ---- the run

  run_by : (f : ℕ) (r : ReaderV) (us vs : List Tag) (t : TurnV) → hear r (heard_of r us) ≡ t → tags_after r us ≡ vs → run (suc f) r us ≡ follow t.answer t vs (run f t.reader vs)
  unfolding run
  run_by f r us vs t e d = rw (e, d)

  module _ (hears : Hears) where
    heard : (s : ℕ) (m : List ℕ) → s < 16
        → hear (reader_at sweeps (round_for false asks afi len mask) s m) (heard_of (reader_at sweeps (round_for false asks afi len mask) s m) (tags_at (round_for false asks afi len mask) s ts))
        ≡ rules.told sweeps (reader_at sweeps (round_for false asks afi len mask) s m) (held s).held (slot_v (held s))
    heard s m h = rw (sent_in_law s m h) (hear_told s m (merge (map (sent (round_for false asks afi len mask) s) ts)) (hears s h))

    step_next : (s f : ℕ) (m : List ℕ) → s < 15
        → run (suc f) (reader_at sweeps (round_for false asks afi len mask) s m) (tags_at (round_for false asks afi len mask) s ts)
        ≡ before (held s) (run f (reader_at sweeps (round_for false asks afi len mask) (s + 1) (met_by sweeps (round_for false asks afi len mask) ts s m)) (tags_at (round_for false asks afi len mask) (s + 1) ts))
    step_next s f m h =
        rw (add-one s) (run_by f _ _ (tags_at (round_for false asks afi len mask) (suc s) ts)
        (telling (reader_at sweeps (round_for false asks afi len mask) (suc s) (met_by sweeps (round_for false asks afi len mask) ts s m)) (NextSlot (held s).held) (slot_v (held s)))
        (heard s m (omega arith) ∙ rw add-one at (told_next s m h)) (tags_next s m))

    step_last : (f : ℕ) (m : List ℕ)
        → run (suc f) (reader_at sweeps (round_for false asks afi len mask) 15 m) (tags_at (round_for false asks afi len mask) 15 ts)
        ≡ before (held 15) (after sweeps (round_for false asks afi len mask) (met_by sweeps (round_for false asks afi len mask) ts 15 m) f (tags_at (round_for false asks afi len mask) 16 ts))
    step_last f m =
        let t : TurnV = finished sweeps (reader_at sweeps (round_for false asks afi len mask) 15 m) (held 15).held (slot_v (held 15)) (met_by sweeps (round_for false asks afi len mask) ts 15 m) in
        run_by f _ _ (tags_at (round_for false asks afi len mask) 16 ts) t (heard 15 m (omega arith) ∙ told_last m) (tags_next 15 m)
        ∙ follow_last m (met_by sweeps (round_for false asks afi len mask) ts 15 m) (tags_at (round_for false asks afi len mask) 16 ts) f (held 15) t refl

    -- n slots more behind slot s
    pub round_run : (n s f : ℕ) (m : List ℕ) → s + n ≡ 15
        → run (suc (n + f)) (reader_at sweeps (round_for false asks afi len mask) s m) (tags_at (round_for false asks afi len mask) s ts)
        ≡ befores (map (λ s. told_of (in_slot (round_for false asks afi len mask) s ts)) (slots_from s (suc n)))
        (after sweeps (round_for false asks afi len mask) (met_from sweeps (round_for false asks afi len mask) ts s (suc n) m) f (tags_at (round_for false asks afi len mask) 16 ts))
    unfolding slots_from befores met_from
    round_run zero s f m e =
        let z : s ≡ 15 = omega arith in
        rw (z, zero-add) (step_last f m)
    round_run (suc n) s f m e =
        let z : suc n + f ≡ suc (n + f) = omega arith in
        rw z (step_next s (suc (n + f)) m (omega arith)
        ∙ ap (before (held s)) (round_run n (s + 1) f (met_by sweeps (round_for false asks afi len mask) ts s m) (omega arith)))
