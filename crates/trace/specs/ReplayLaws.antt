-- Laws of the loop over the frames of the sweep over the listed cards: what is left to compare after a frame. Assumes nothing.
use Rattle.trace_rules.specs.Verdict.{Compared, Verdict}
use Rattle.trace_rules.specs.declared.Differs.TheVariants.{First, Second}
use Rattle.std.specs.Prelude.{◌≡◌, Bool, ◌&&◌, List, [], ◌∷◌, length, take, Err, Ok}
use Rattle.std.proofs.Math.Path.{refl, sym}
use Rattle.std.proofs.Common.{ap, ◌∙◌, arith, length-append, length-drop, ltb-true, ltb-false}
use Prim.Native.Nat.{ℕ, suc, ◌+◌, ◌-◌, ◌*◌, ◌≤◌, ◌<◌}
use Rattle.std.proofs.Math.Bool.{true, false}
use Rattle.std.proofs.lemmas.Bool.{false≢true}
use Rattle.std.proofs.Math.ListN.{length-map}
use Rattle.std.proofs.Math.Seq.{length-take-le}
use Rattle.std.proofs.Math.Dec.{ltb}
use Rattle.limits.specs.Limits.{most_frames}
use Rattle.reader.specs.Reader.{blank, sends, frame, hear}
use Rattle.field.specs.Field.{all_take, heard_from}
use Rattle.field.specs.Calls.{cards_after}
use Rattle.air_log.specs.Log.{Exchange, sent_heard}
use Rattle.sweep_rules.specs.Run.{before, ended, plain, run, sweep}
use Rattle.sweep_steps.specs.Steps.{goes, exchange_of}
use Rattle.sweep_steps.specs.LeftLaws.{with_found, take_after}
use Rattle.sweep_steps.specs.RunLaws.{rest, after, rest_step, rest_stops, rest_spent}
use Rattle.trace_rules.specs.Check.{compared_then, differs}
use Rattle.card.specs.declared.Card.{Card}
use Rattle.reader.specs.declared.Phase.TheVariants.{ReqaSent}
use Rattle.reader.specs.declared.Turn.{Turn}
use Rattle.trace.specs.Loops.{played, next_place, is_same, plays_on, finish}
use Rattle.trace.specs.declared.replay.Played.{Played}

-- the exchanges of the sweep that are left after a turn
abbrev ahead : ℕ → Turn → List Card → List Exchange
ahead k t cs = (rest plain k t cs).exchanges

-- REQA is out
abbrev pub first : Turn
first = sends (blank ReqaSent true)

sweep_ahead : (cs : List Card) → (sweep cs).exchanges ≡ ahead most_frames first cs
unfolding sweep run rest sends
sweep_ahead cs = refl

-- a frame, and what is left after it
ahead_step : (k : ℕ) (t : Turn) (cs : List Card) → goes t.answer ≡ true
    → ahead (suc k) t cs ≡ sent_heard (frame t.reader) (heard_from (frame t.reader) cs) ∷ ahead k (hear t.reader (heard_from (frame t.reader) cs)) (all_take (frame t.reader) cs)
unfolding after before with_found exchange_of
ahead_step k t cs g = ap (λ o. o.exchanges) (rest_step plain k t cs g)

ahead_none : (k : ℕ) (t : Turn) (cs : List Card) → goes t.answer ≡ false → ahead k t cs ≡ []
unfolding ended
ahead_none k t cs g = ap (λ o. o.exchanges) (rest_stops plain k t cs g)

ahead_spent : (t : Turn) (cs : List Card) → ahead 0 t cs ≡ []
unfolding ended
ahead_spent t cs = ap (λ o. o.exchanges) (rest_spent plain t cs)

-- ---- what is left to compare after a frame, i records being before its own, the first n cards being the field

abbrev pub left : ℕ → ℕ → List ℕ → ℕ → Played → ℕ → Verdict
left k w l i p n = compared_then i (differs w l (i + 2) (ahead k p.turn (take n p.cards))) p.compared

module _ (w : ℕ) (l : List ℕ) (n : ℕ) where
  -- one frame more
  one_more : (k i at : ℕ) (t : Turn) (cards : List Card) → n ≤ length cards → goes t.answer ≡ true
      → differs w l i (ahead (suc k) t (take n cards)) at ≡ left k w l i (played w l at t cards n) n
  unfolding differs played
  one_more k i at t cards h g = rw (ahead_step k t (take n cards) g, ← (take_after cards n (frame t.reader) h))

  -- the array keeps its cards
  pub played_full : (at : ℕ) (t : Turn) (cards : List Card) (m : ℕ) → n ≤ m → length cards ≡ m → length (played w l at t cards n).cards ≡ m
  unfolding played cards_after all_take
  played_full at t cards m h e = rw (length-append, length-map, length-take-le n cards (omega arith), length-drop) (omega arith)

  pub left_first : (cards : List Card) → n ≤ length cards → left (most_frames - 1) w l 0 (played w l 0 first cards n) n ≡ differs w l 0 (sweep (take n cards)).exchanges 0
  unfolding sends
  left_first cards h = sym (ap (λ es. differs w l 0 es 0) (sweep_ahead (take n cards)) ∙ one_more (most_frames - 1) 0 0 first cards h refl)

  is_same_law : (c : Compared) → is_same c ≡ true → c ≡ Ok (next_place c)
  is_same_law (Ok at) e = refl
  is_same_law (Err First) e = absurd (false≢true e)
  is_same_law (Err Second) e = absurd (false≢true e)

  pub plays_says : (p : Played) (frames : ℕ) → plays_on p frames ≡ true → (frames < most_frames) × (is_same p.compared ≡ true) × (goes p.turn.answer ≡ true)
  unfolding plays_on
  plays_says p frames h = go (ltb frames most_frames) (is_same p.compared) refl h
    where
      go : (a b : Bool) → ltb frames most_frames ≡ a → (a && b && goes p.turn.answer) ≡ true → (frames < most_frames) × (b ≡ true) × (goes p.turn.answer ≡ true)
      go true true e h = (ltb-true frames most_frames e, refl, h)
      go true false e h = absurd (false≢true h)
      go false b e h = absurd (false≢true h)

  pub left_turn : (frames : ℕ) (p : Played) → n ≤ length p.cards → 1 ≤ frames → frames < most_frames → is_same p.compared ≡ true → goes p.turn.answer ≡ true
      → left (most_frames - frames) w l (2 * (frames - 1)) p n
      ≡ left (most_frames - (frames + 1)) w l (2 * (frames + 1 - 1)) (played w l (next_place p.compared) p.turn p.cards n) n
  left_turn frames p h some few s g =
      let k : ℕ = most_frames - (frames + 1) in
      let i : ℕ = 2 * (frames - 1) in
      let e : most_frames - frames ≡ suc k = omega arith in
      let f : 2 * (frames + 1 - 1) ≡ i + 2 = omega arith in
      rw (e, f)
      (ap (compared_then i (differs w l (i + 2) (ahead (suc k) p.turn (take n p.cards)))) (is_same_law p.compared s)
      ∙ one_more k (i + 2) (next_place p.compared) p.turn p.cards h g)

  pub left_done : (i frames : ℕ) (p : Played) → plays_on p frames ≡ false → left (most_frames - frames) w l i p n ≡ finish i (length l) p
  unfolding plays_on differs
  left_done i frames p h = go p.compared h
    where
      k : ℕ
      k = most_frames - frames

      es : List Exchange
      es = ahead k p.turn (take n p.cards)

      none : (a : Bool) → ltb frames most_frames ≡ a → (b : Bool) → goes p.turn.answer ≡ b → (a && true && b) ≡ false → es ≡ []
      none true e true g h = absurd (false≢true (sym h))
      none true e false g h = ahead_none k p.turn (take n p.cards) g
      none false e b g h = let z : most_frames - frames ≡ 0 = omega (arith, ltb-false frames most_frames e) in rw z (ahead_spent p.turn (take n p.cards))

      go : (c : Compared) → (ltb frames most_frames && is_same c && goes p.turn.answer) ≡ false
          → compared_then i (differs w l (i + 2) es) c ≡ compared_then i (differs w l (i + 2) []) c
      go (Err First) h = refl
      go (Err Second) h = refl
      go (Ok at) h = ap (λ s. differs w l (i + 2) s at) (none (ltb frames most_frames) refl (goes p.turn.answer) refl h)
