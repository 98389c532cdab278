-- Laws of the loop over a request's slots: what is left of the run, slot by slot, and where it is written. Assumes nothing.
use Rattle.std.specs.Prelude.{◌≡◌, Bool, ◌&&◌, take, drop}
use Rattle.std.proofs.Math.Path.{refl, sym, ap, ap₂}
use Rattle.std.proofs.Common.{◌∙◌, add_assoc, length-take, length-drop, take-append-drop, drop-drop, length-take-le}
use Prim.Native.Nat.{ℕ, suc, ◌+◌, ◌-◌, ◌*◌, ◌≤◌, ◌<◌}
use Rattle.std.proofs.Math.Bool.{true, false}
use Rattle.std.proofs.lemmas.Bool.{false≢true}
use mathlib.Core.List.{List, [], ◌∷◌, ◌++◌, append_assoc}
use Rattle.std.proofs.Math.ListN.{length, length-append, length-map}
use Rattle.std.proofs.Math.Seq.{take_at, drop_at, drop-append-add}
use Rattle.std.proofs.Math.Dec.{ltb}
use borrow.Author.Tests.{ltb-true, ltb-false}
use native.Mathlib.Omega.{arith}
use Rattle.limits.specs.Limits.{most_cards}
use Rattle.frame_b.specs.LimitsB.{most_slots, list_room_b}
use Rattle.rows.specs.Rows.{overlay}
use Rattle.rows.proofs.RowLaws.{overlay_nil, length_overlay}
use Rattle.rows.specs.ListLaws.{both}
use Rattle.selection_b.specs.HeardB.{entry}
use Rattle.reader_b.specs.ReaderB.{opens, goes, hear}
use Rattle.field_b.specs.CallsB.{cards_after}
use Rattle.field_b.specs.FieldB.{all_take, heard_from}
use Rattle.slots_rules.specs.RunB.{Told, Out, before, ended, follow, out_frame, run, inquiry, list_bytes}
use Rattle.slots.specs.Steps.{told_in, told_by, exchanged, stepped, goes_on, ends}
use Rattle.slots.specs.StepLaws.{told_most}
use Rattle.field_b.specs.declared.Drawn.{Drawn}
use Rattle.reader_b.specs.declared.TurnB.{TurnB}
use Rattle.reader_b.specs.declared.AnswerB.{AnswerB}
use Rattle.reader_b.specs.declared.AnswerB.TheVariants.{Sends, Marks, Ends, Attached, Halted, Declines}
use Rattle.slots.specs.declared.within.ProgressB.{ProgressB}

-- ---- what is left of a run

abbrev onward : AnswerB → Out → Out → Out
onward (Sends n) o e = o
onward (Marks k) o e = o
onward (Ends k) o e = e
onward (Attached m) o e = e
onward Halted o e = e
onward (Declines x) o e = e

-- what comes after a turn, with what it tells of its slot
unfoldable pub with_told : List Told → Out → Out
with_told u o = record { slots = u ++ o.slots; cards = o.cards; last = o.last }

follow_onward : (a : AnswerB) (t : TurnB) (ds : List Drawn) (o : Out) → follow a t ds o ≡ with_told (told_in a t.atqb) (onward a o (ended [] ds t))
unfolding before ended with_told
follow_onward (Sends n) t ds o = refl
follow_onward (Marks k) t ds o = refl
follow_onward (Ends k) t ds o = refl
follow_onward (Attached m) t ds o = refl
follow_onward Halted t ds o = refl
follow_onward (Declines e) t ds o = refl

module _ (wake : Bool) (afi : ℕ) where
  unfoldable pub rest : ℕ → TurnB → List Drawn → Out
  rest k t ds = onward t.answer (run wake afi k t ds) (ended [] ds t)

  -- one slot, then the rest
  after : ℕ → TurnB → List Drawn → Out
  after k t ds =
      let f : List ℕ = out_frame wake afi t.reader in
      let t' : TurnB = hear t.reader (heard_from f ds) in
      with_told (told_by t') (rest k t' (all_take f ds))

  run_after : (k : ℕ) (t : TurnB) (ds : List Drawn) → run wake afi (suc k) t ds ≡ after k t ds
  unfolding run after rest told_by
  run_after k t ds =
      let f : List ℕ = out_frame wake afi t.reader in
      let t' : TurnB = hear t.reader (heard_from f ds) in
      follow_onward t'.answer t' (all_take f ds) (run wake afi k t' (all_take f ds))

  rest_step : (k : ℕ) (t : TurnB) (ds : List Drawn) → goes t.answer ≡ true → rest (suc k) t ds ≡ after k t ds
  unfolding rest
  rest_step k t ds g = go t.answer g
    where
      go : (a : AnswerB) → goes a ≡ true → onward a (run wake afi (suc k) t ds) (ended [] ds t) ≡ after k t ds
      go (Sends n) g = run_after k t ds
      go (Marks n) g = run_after k t ds
      go (Ends n) g = absurd (false≢true g)
      go (Attached m) g = absurd (false≢true g)
      go Halted g = absurd (false≢true g)
      go (Declines e) g = absurd (false≢true g)

  rest_stops : (k : ℕ) (t : TurnB) (ds : List Drawn) → goes t.answer ≡ false → rest k t ds ≡ ended [] ds t
  unfolding rest
  rest_stops k t ds g = go t.answer g
    where
      go : (a : AnswerB) → goes a ≡ false → onward a (run wake afi k t ds) (ended [] ds t) ≡ ended [] ds t
      go (Sends n) g = absurd (false≢true (sym g))
      go (Marks n) g = absurd (false≢true (sym g))
      go (Ends n) g = refl
      go (Attached m) g = refl
      go Halted g = refl
      go (Declines e) g = refl

  rest_spent : (t : TurnB) (ds : List Drawn) → rest 0 t ds ≡ ended [] ds t
  unfolding rest run
  rest_spent t ds = go t.answer
    where
      go : (a : AnswerB) → onward a (run wake afi 0 t ds) (ended [] ds t) ≡ ended [] ds t
      go (Sends n) = refl
      go (Marks n) = refl
      go (Ends n) = refl
      go (Attached m) = refl
      go Halted = refl
      go (Declines e) = refl

-- ---- the rows written

list_append : (a b : List Told) → list_bytes (a ++ b) ≡ list_bytes a ++ list_bytes b
unfolding list_bytes
list_append [] b = refl
list_append (s ∷ a) b = ap (λ r. entry s.0 s.1 ++ r) (list_append a b) ∙ sym (append_assoc (entry s.0 s.1) (list_bytes a) (list_bytes b))

-- two rows written one behind the other are one row, however long the second is
overlay_on : (d : List ℕ) (at : ℕ) (s t : List ℕ) (n : ℕ) → n ≡ at + length s → at ≤ length d → overlay (overlay d at s) n t ≡ overlay d at (s ++ t)
unfolding overlay
overlay_on d at s t n q h =
    let p : List ℕ = take at d ++ s in
    let r : List ℕ = drop (at + length s) d in
    let e : at + length s ≡ length p = sym (simp (length-append, length-take) (omega arith)) in
    rw (q, ← append_assoc (take at d) s r, take_at p r (at + length s) (sym e)) (rw (e, drop-append-add, ← e, drop-drop, length-append, append_assoc, append_assoc, add_assoc))

-- ---- how far a request is

module _ (wake : Bool) (n afi count : ℕ) where
  -- what is left of it
  abbrev left : ProgressB → Out
  left p = rest wake afi (n - p.frames) p.turn (take count p.cards)

  -- the whole run is W, over the first of cards₀ with list₀; so far it is at p and list
  pub record Under (W : Out) (cards₀ : List Drawn) (list₀ : List ℕ) (p : ProgressB) (list : List ℕ) : Type 0 where
    pub full : length p.cards ≡ most_cards
    pub list_size : length list ≡ length list₀
    pub fewer : p.slots ≤ p.frames
    pub list_row : overlay list (13 * p.slots) (list_bytes (left p).slots) ≡ overlay list₀ 0 (list_bytes W.slots)
    pub told : p.slots + length (left p).slots ≡ length W.slots
    pub cards : (left p).cards ≡ W.cards
    pub last : (left p).last ≡ W.last
    pub others : drop count p.cards ≡ drop count cards₀

  -- before the first slot
  pub under_none : (cards : List Drawn) (list : List ℕ) (p : ProgressB) → p.turn ≡ opens n → p.cards ≡ cards → p.frames ≡ 0 → p.slots ≡ 0
      → length cards ≡ most_cards → Under (inquiry wake n afi (take count cards)) cards list p list
  unfolding inquiry rest
  under_none cards list p t c f s h =
      let z : n - p.frames ≡ n = omega arith in
      let e : left p ≡ inquiry wake n afi (take count cards) = rw (z, t, c) in
      record {
        full = ap length c ∙ h;
        list_size = refl;
        fewer = omega arith;
        list_row = rw s (ap (λ o. overlay list 0 (list_bytes o.slots)) e);
        told = rw s (ap (λ o. 0 + length o.slots) e ∙ omega arith);
        cards = ap (λ o. o.cards) e;
        last = ap (λ o. o.last) e;
        others = ap (drop count) c;
      }

  goes_on_law : (p : ProgressB) → goes_on p n ≡ true → (p.frames < n) × (goes p.turn.answer ≡ true)
  unfolding goes_on
  goes_on_law p g =
      let b : (ltb p.frames n ≡ true) × (goes p.turn.answer ≡ true) = both (ltb p.frames n) (goes p.turn.answer) g in
      (ltb-true p.frames n b.0, b.1)

  length_taken : (ds : List Drawn) (f : List ℕ) → count ≤ length ds → length (all_take f (take count ds)) ≡ count
  unfolding all_take
  length_taken ds f h = rw length-map (length-take-le count ds h)

  take_after : (ds : List Drawn) (f : List ℕ) → count ≤ length ds → take count (cards_after ds count f) ≡ all_take f (take count ds)
  unfolding cards_after
  take_after ds f h = take_at (all_take f (take count ds)) (drop count ds) count (length_taken ds f h)

  drop_after : (ds : List Drawn) (f : List ℕ) → count ≤ length ds → drop count (cards_after ds count f) ≡ drop count ds
  unfolding cards_after
  drop_after ds f h = drop_at (all_take f (take count ds)) (drop count ds) count (length_taken ds f h)

  length_after : (ds : List Drawn) (f : List ℕ) → count ≤ length ds → length (cards_after ds count f) ≡ length ds
  unfolding cards_after
  length_after ds f h = rw (length-append, length_taken ds f h, length-drop) (omega arith)

  -- what is left is what the next turn tells, and what is left after it
  left_step : (p : ProgressB) → count ≤ length p.cards → goes_on p n ≡ true
      → left p ≡ with_told (told_by (stepped p wake afi count).turn) (left (stepped p wake afi count))
  unfolding stepped exchanged after
  left_step p h g =
      let f : List ℕ = out_frame wake afi p.turn.reader in
      let b : (p.frames < n) × (goes p.turn.answer ≡ true) = goes_on_law p g in
      let e : n - p.frames ≡ suc (n - (p.frames + 1)) = omega (arith, b.0) in
      rw (e, take_after p.cards f h) (rest_step wake afi (n - (p.frames + 1)) p.turn (take count p.cards) b.1)

  step_cards : (p : ProgressB) → (stepped p wake afi count).cards ≡ cards_after p.cards count (out_frame wake afi p.turn.reader)
  unfolding stepped exchanged
  step_cards p = refl

  step_frames : (p : ProgressB) → (stepped p wake afi count).frames ≡ p.frames + 1
  unfolding stepped
  step_frames p = refl

  step_slots : (p : ProgressB) → (stepped p wake afi count).slots ≡ p.slots + length (told_by (stepped p wake afi count).turn)
  unfolding stepped
  step_slots p = refl

  -- what is left is nothing
  left_none : (p : ProgressB) → goes_on p n ≡ false → left p ≡ ended [] (take count p.cards) p.turn
  unfolding goes_on
  left_none p g = go (ltb p.frames n) refl g
    where
      go : (b : Bool) → ltb p.frames n ≡ b → (b && goes p.turn.answer) ≡ false → left p ≡ ended [] (take count p.cards) p.turn
      go true e g = rest_stops wake afi (n - p.frames) p.turn (take count p.cards) g
      go false e g =
          let z : n - p.frames ≡ 0 = omega (arith, ltb-false p.frames n e) in
          rw z (rest_spent wake afi p.turn (take count p.cards))

  module _ (W : Out) (cards₀ : List Drawn) (list₀ : List ℕ) (p : ProgressB) (list : List ℕ) (u : Under W cards₀ list₀ p list) where
    module _ (g : goes_on p n ≡ true) (few : count ≤ most_cards) (most : n ≤ most_slots) (room : list_room_b ≤ length list₀) where
      pub under_room : (count ≤ most_cards) × (p.slots ≤ p.frames) × (p.frames < most_slots) × (list_room_b ≤ length list)
      under_room = (few, u.fewer, omega (arith, (goes_on_law p g).0), omega (arith, u.list_size))

      pub under_turn : (q : ProgressB) (list' : List ℕ) → q ≡ stepped p wake afi count
          → list' ≡ overlay list (13 * p.slots) (list_bytes (told_by q.turn)) → length (list_bytes (told_by q.turn)) ≡ 13 * length (told_by q.turn)
          → Under W cards₀ list₀ q list'
      unfolding with_told
      under_turn q list' e o l =
          let T : List Told = told_by q.turn in
          let s : left p ≡ with_told T (left q) = left_step p (omega (arith, u.full)) g ∙ sym (ap (λ (x : ProgressB). with_told (told_by x.turn) (left x)) e) in
          let c : q.cards ≡ cards_after p.cards count (out_frame wake afi p.turn.reader) = ap (λ (x : ProgressB). x.cards) e ∙ step_cards p in
          let f : q.frames ≡ p.frames + 1 = ap (λ (x : ProgressB). x.frames) e ∙ step_frames p in
          let k : q.slots ≡ p.slots + length T = ap (λ (x : ProgressB). x.slots) e ∙ step_slots p ∙ sym (ap (λ (x : ProgressB). p.slots + length (told_by x.turn)) e) in
          let m : length T ≤ 1 = told_most q.turn in
          let a : 13 * q.slots ≡ 13 * p.slots + length (list_bytes T) = omega (arith, k, l) in
          let z : list_bytes (left p).slots ≡ list_bytes T ++ list_bytes (left q).slots = ap (λ o. list_bytes o.slots) s ∙ list_append T (left q).slots in
          let w : 13 * p.slots + length (list_bytes T) ≤ length list = omega (arith, u.fewer, (goes_on_law p g).0, u.list_size, m, l) in
          record {
            full = ap length c ∙ length_after p.cards (out_frame wake afi p.turn.reader) (omega (arith, u.full)) ∙ u.full;
            list_size = ap length o ∙ length_overlay list (13 * p.slots) (list_bytes T) w ∙ u.list_size;
            fewer = omega (arith, u.fewer);
            list_row = rw (o, overlay_on list (13 * p.slots) (list_bytes T) (list_bytes (left q).slots) (13 * q.slots) a (omega arith), ← z) u.list_row;
            told = omega (arith, u.told, ap (λ o. length o.slots) s, length-append T (left q).slots);
            cards = sym (ap (λ o. o.cards) s) ∙ u.cards;
            last = sym (ap (λ o. o.last) s) ∙ u.last;
            others = ap (drop count) c ∙ drop_after p.cards (out_frame wake afi p.turn.reader) (omega (arith, u.full)) ∙ u.others;
          }

    -- the loop is over
    module _ (g : goes_on p n ≡ false) where
      none : left p ≡ ended [] (take count p.cards) p.turn
      none = left_none p g

      pub under_last : p.turn ≡ W.last
      unfolding ended
      under_last = ap (λ o. o.last) (sym none) ∙ u.last

      pub under_cards : p.cards ≡ ends cards₀ count W
      unfolding ended
      under_cards = sym (take-append-drop count p.cards) ∙ ap₂ ◌++◌ (ap (λ o. o.cards) (sym none) ∙ u.cards) u.others

      pub under_slots : p.slots ≡ length W.slots
      unfolding ended
      under_slots = omega (arith, u.told, ap (λ o. length o.slots) none)

      pub under_list : list ≡ overlay list₀ 0 (list_bytes W.slots)
      unfolding ended list_bytes
      under_list = sym (overlay_nil list (13 * p.slots)) ∙ ap (λ o. overlay list (13 * p.slots) (list_bytes o.slots)) (sym none) ∙ u.list_row

  -- fewer slots are left after each
  pub fewer_left : (p q : ProgressB) → goes_on p n ≡ true → q ≡ stepped p wake afi count → n - q.frames < n - p.frames
  unfolding stepped
  fewer_left p q g e = omega (arith, (goes_on_law p g).0, ap (λ (x : ProgressB). x.frames) e)
