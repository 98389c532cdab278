-- T-03's claim, over the rules: the run level by level, where the UID is there and where it is not. Assumes nothing.
use Rattle.std.specs.Prelude.{Ok}
use mathlib.Core.Path.{◌≡◌, refl, sym, ap, ◌∙◌}
use mathlib.Core.Logic.{◌≢◌}
use Prim.Native.Nat.{ℕ, zero, suc, ◌+◌, ◌-◌, ◌≤◌, ◌<◌}
use native.Mathlib.Omega.{arith}
use mathlib.Core.Bool.{Bool, true, false, cond, not, ◌&&◌, ◌||◌, true≢false}
use mathlib.Core.List.{List, [], ◌∷◌, ◌++◌, map, map-map}
use lib.ListN.{length, replicate, length-append, length-map}
use lib.Dec.{leb}
use borrow.Author.Tests.{lt-ltb, le-ltb, not-true}
use Rattle.rows.specs.EachLaws.{all_weaken, all_zip}
use Rattle.rows.specs.ListLaws.{both, same_eq, all_append}
use Rattle.rows.specs.Rows.{All, any, same, is_nil}
use Rattle.frame.specs.Frame.{bytes_of}
use Rattle.uid.specs.LevelLaws.{wide, lev}
use Rattle.uid.specs.Uid.{valid, uid_bytes, levels, row_of}
use Rattle.uid.specs.UidLaws.{Sound, length_row, uid_in_levels}
use Rattle.selection.specs.Heard.{read_atqa, read_sak}
use Rattle.selection.specs.SakLaws.{reads_more, reads_last}
use Rattle.selection.specs.Selection.{wupa, select, sak_frame, atqa}
use Rattle.card.specs.Card.{active_in}
use Rattle.reader.specs.KnownLaws.{fits_is, sak_onward, sak_ends}
use Rattle.reader.specs.Reader.{reader, turn, frame, sends, stop, completes, wakes, picks, pick_next, misfits, hear_wupa, uid_sak_heard, hear_uid_sak, hear}
use Rattle.reader.specs.ReaderLaws.{lvl, place_lvl}
use Rattle.field.specs.Field.{all_take, heard_from}
use Rattle.field.specs.HeardLaws.{reads_atqa}
use Rattle.field.specs.Merge.{merge}
use Rattle.air_log.specs.Log.{sent_heard}
use Rattle.sweep_rules.specs.Demand.{Typed}
use Rattle.sweep_rules.specs.Run.{Out, before, ended, follow, run_of, run}
use Rattle.limits.specs.Limits.{most_cards}
use Rattle.sweep_rules.specs.Terms.{all_fit, apart, within}
use Rattle.sweep_rules.proofs.Idle.{Fits}
use Rattle.sweep_rules.proofs.Within.{within_says}
use Rattle.wake_rules.specs.Wake.{wake}
use Rattle.wake_rules.specs.Claim as typed
use Rattle.wake_rules.specs.Claim.{last_sak, chosen, Chosen, Absent, Wakes}
use Rattle.wake_rules.proofs.Known.{pick_five}
use Rattle.wake_rules.proofs.Stage.{hear_none, hear_one, standing, is_in, ready_for, standing_none, standing_one, turn_wupa, hear_wupa_law, turn_more, hear_more, turn_last, hear_last, own_in, other_out}
use Rattle.uid.specs.declared.Uid.{Uid}
use Rattle.card.specs.declared.Card.{Card}
use Rattle.reader.specs.declared.Phase.TheVariants.{Selected, WupaSent, UidSelectSent}
use Rattle.reader.specs.declared.Answer.TheVariants.{Selects}
use Rattle.reader.specs.declared.Reader.{Reader}
use Rattle.reader.specs.declared.Turn.{Turn}
use Rattle.refusal.specs.declared.Refusal.TheVariants.{Silence}

-- ---- tests over a list

all_false : {A : Type 0} (t : A → Bool) (l : List A) → any t l ≡ false → All (λ x. t x ≡ false) l
unfolding any
all_false t [] e = tt
all_false t (x ∷ l) e = go (t x) refl e (all_false t l)
  where
    go : (b : Bool) → t x ≡ b → (b || any t l) ≡ false → (any t l ≡ false → All (λ x. t x ≡ false) l) → (t x ≡ false) × All (λ x. t x ≡ false) l
    go true p e ih = absurd (true≢false e)
    go false p e ih = (p, ih e)

any_there : {A : Type 0} (t : A → Bool) (a : List A) (x : A) (b : List A) → t x ≡ true → any t (a ++ (x ∷ b)) ≡ true
unfolding any
any_there t [] x b e = rw e
any_there t (y ∷ a) x b e = rw (any_there t a x b e) (go (t y))
  where
    go : (b : Bool) → (b || true) ≡ true
    go true = refl
    go false = refl

-- of different UIDs one alone is c's
module _ (c : Card) where
  alone : (a b : List Card) → apart (a ++ (c ∷ b)) ≡ true → All (λ k. uid_bytes k.uid ≢ uid_bytes c.uid) a × All (λ k. uid_bytes k.uid ≢ uid_bytes c.uid) b
  unfolding apart
  alone [] b e =
      let t : Bool = any (λ k. same (uid_bytes c.uid) (uid_bytes k.uid)) b in
      (tt, all_weaken b (λ k f q. true≢false (sym (same_eq (uid_bytes c.uid) (uid_bytes k.uid) (sym q)) ∙ f)) (all_false (λ k. same (uid_bytes c.uid) (uid_bytes k.uid)) b (not-true t (both (not t) (apart b) e).0)))
  alone (x ∷ a) b e =
      let t : Bool = any (λ k. same (uid_bytes x.uid) (uid_bytes k.uid)) (a ++ (c ∷ b)) in
      let h : (not t ≡ true) × (apart (a ++ (c ∷ b)) ≡ true) = both (not t) (apart (a ++ (c ∷ b))) e in
      let i : All (λ k. uid_bytes k.uid ≢ uid_bytes c.uid) a × All (λ k. uid_bytes k.uid ≢ uid_bytes c.uid) b = alone a b h.1 in
      ((λ q. true≢false (sym (any_there (λ k. same (uid_bytes x.uid) (uid_bytes k.uid)) a c b (same_eq (uid_bytes x.uid) (uid_bytes c.uid) q)) ∙ not-true t h.0), i.0), i.1)

-- ---- one frame

tick : (n : ℕ) (r : Reader) (F F' : List Card) (h : List ℕ) (t : Turn) → heard_from (frame r) F ≡ h → all_take (frame r) F ≡ F' → hear r h ≡ t
    → run (suc n) (sends r) F ≡ before (sent_heard (frame r) h) (follow t.answer t F' (run n t F'))
unfolding run run_of sends
tick n r F F' h t e₁ e₂ e₃ = rw (e₁, e₂, e₃)

-- what the rest of a run leaves
record Ends (F : List Card) (t : Turn) (o : Out) : Type 0 where
  found : o.found ≡ []
  cards : o.cards ≡ F
  last : o.last ≡ t

module _ (F : List Card) (t : Turn) where
  at_once : (n : ℕ) (r : Reader) (G : List Card) (h : List ℕ) → follow t.answer t F (run n t F) ≡ ended F t → heard_from (frame r) G ≡ h → all_take (frame r) G ≡ F → hear r h ≡ t
      → Ends F t (run (suc n) (sends r) G) × (length (run (suc n) (sends r) G).exchanges ≡ 1)
  unfolding before ended
  at_once n r G h e e₁ e₂ e₃ = rw (tick n r G F h t e₁ e₂ e₃, e) (record { found = refl; cards = refl; last = refl }, refl)

  -- one frame more
  then : (n : ℕ) (r q : Reader) (G H : List Card) (h : List ℕ) → heard_from (frame r) G ≡ h → all_take (frame r) G ≡ H → hear r h ≡ sends q
      → Ends F t (run n (sends q) H)
      → Ends F t (run (suc n) (sends r) G) × (length (run (suc n) (sends r) G).exchanges ≡ suc (length (run n (sends q) H).exchanges))
  unfolding before sends
  then n r q G H h e₁ e₂ e₃ i = rw (tick n r G H h (sends q) e₁ e₂ e₃) (record { found = i.found; cards = i.cards; last = i.last }, refl)

-- nothing was heard, in at most k frames
abbrev Gone : List Card → ℕ → Out → Type 0
Gone cs k o = Ends cs (stop Silence) o × (length o.exchanges ≤ k)

-- the run ended with t, in just k frames
abbrev Got : List Card → Turn → ℕ → Out → Type 0
Got F t k o = Ends F t o × (length o.exchanges ≡ k)

-- ---- the reader

-- SELECT of level j is out
holding : Uid → ℕ → Reader
holding u j = reader (UidSelectSent (lvl j)) false (bytes_of 5 (lev j (row_of u))) 40 u 0

waking : Uid → Reader
waking u = reader WupaSent false (replicate 5 0) 0 u 0

frame_held : (u : Uid) (j : ℕ) → frame (holding u j) ≡ select (lvl j) (bytes_of 5 (lev j (row_of u)))
unfolding frame holding
frame_held u j = refl

hears_none : (u : Uid) (j : ℕ) → hear (holding u j) [] ≡ stop Silence
unfolding hear hear_uid_sak holding read_sak is_nil
hears_none u j = refl

wakes_is : (u : Uid) → wakes u ≡ sends (waking u)
unfolding waking
wakes_is u = refl

frame_wupa : (u : Uid) → frame (waking u) ≡ wupa
unfolding frame waking
frame_wupa u = refl

hears_atqa : (u : Uid) (h : List ℕ) → read_atqa h ≡ (Ok tt) → hear (waking u) h ≡ picks (lvl 0) u
unfolding hear hear_wupa waking lvl
hears_atqa u h e = rw e

wupa_none : (u : Uid) → hear (waking u) [] ≡ stop Silence
unfolding hear hear_wupa waking read_atqa is_nil
wupa_none u = refl

module _ (u : Uid) (s : Sound u) where
  few : length (levels u) ≤ 3
  unfolding wide
  few = omega (arith, length_row u s, (uid_in_levels u s).at_most)

  some_level : 0 < length (levels u)
  some_level = omega (arith, length_row u s, (uid_in_levels u s).one_level)

  pick_is : (j : ℕ) → j < length (levels u) → picks (lvl j) u ≡ sends (holding u j)
  unfolding picks holding
  pick_is j h = rw (place_lvl j (omega (arith, few)), pick_five u s j h)

  pick_next_law : (j : ℕ) → suc j < 3 → pick_next (lvl j) u ≡ picks (lvl (suc j)) u
  unfolding lvl
  pick_next_law zero h = refl
  pick_next_law (suc zero) h = refl
  pick_next_law (suc (suc j)) h = absurd (omega arith)

  hears_more : (j : ℕ) → suc j < length (levels u) → hear (holding u j) (sak_frame 0x04) ≡ sends (holding u (suc j))
  unfolding hear hear_uid_sak holding
  hears_more j h =
      rw reads_more
      (sak_onward (lvl j) u 0x04 (fits_is (lvl j) u true s.is_valid (rw (place_lvl j (omega (arith, few))) (lt-ltb (suc j) (length (levels u)) h))) refl
      ∙ pick_next_law j (omega (arith, few)) ∙ pick_is (suc j) h)

  hears_last : (j : ℕ) → suc j ≡ length (levels u) → (b : Bool) → hear (holding u j) (sak_frame (cond b 0x20 0x00)) ≡ completes false u (cond b 0x20 0x00)
  unfolding hear hear_uid_sak holding
  hears_last j e b = rw (reads_last b) (go b)
    where
      fits : misfits (lvl j) u false ≡ false
      fits = fits_is (lvl j) u false s.is_valid (rw (place_lvl j (omega (arith, few))) (le-ltb (suc j) (length (levels u)) (omega arith)))

      go : (b : Bool) → uid_sak_heard (lvl j) u (Ok (cond b 0x20 0x00)) ≡ completes false u (cond b 0x20 0x00)
      go true = sak_ends (lvl j) u 0x20 fits refl
      go false = sak_ends (lvl j) u 0x00 fits refl

  -- a field with cards answers WUPA
  begun : (F : List Card) (t : Turn) (cs : List Card) → All Fits cs → 1 ≤ length cs → Ends F t (run (length (levels u)) (sends (holding u 0)) (standing u (ready_for 0) 0 cs))
      → Ends F t (run (suc (length (levels u))) (sends (waking u)) cs)
      × (length (run (suc (length (levels u))) (sends (waking u)) cs).exchanges ≡ suc (length (run (length (levels u)) (sends (holding u 0)) (standing u (ready_for 0) 0 cs)).exchanges))
  begun F t cs f some i =
      then F t (length (levels u)) (waking u) (holding u 0) cs (standing u (ready_for 0) 0 cs) (merge (map (λ c. atqa c.uid.size) cs))
      (rw (frame_wupa u) (hear_wupa_law u cs f)) (rw (frame_wupa u) (turn_wupa u cs f))
      (hears_atqa u _ (rw (← map-map atqa (λ c. c.uid.size) cs) (reads_atqa (map (λ c. c.uid.size) cs) (rw length-map some))) ∙ pick_is 0 some_level) i

  -- ---- the UID is not there

  module _ (cs : List Card) (f : All Fits cs) (n : All (λ c. uid_bytes c.uid ≢ uid_bytes u) cs) where
    outside : All (λ c. is_in u (length (levels u)) c ≡ false) cs
    outside = all_zip cs (λ c k m. other_out u s c k m) f n

    gone_from : (k j : ℕ) → suc (k + j) ≡ length (levels u) → Gone cs (suc k) (run (suc k) (sends (holding u j)) (standing u (ready_for j) j cs))
    gone_from zero j e =
        let l : suc j ≡ length (levels u) = omega arith in
        let o : All (λ c. is_in u (suc j) c ≡ false) cs = rw l outside in
        let x = at_once cs (stop Silence) 0 (holding u j) (standing u (ready_for j) j cs) [] refl
        (rw (frame_held u j) (hear_last u s j (omega arith) cs f l ∙ hear_none (λ c. cond (is_in u (suc j) c) (sak_frame (last_sak c)) []) cs (all_weaken cs (λ c i. rw i) o)))
        (rw (frame_held u j) (turn_last u s j (omega arith) cs f l ∙ standing_none u active_in (suc j) cs f o)) (hears_none u j) in
        (x.0, omega (arith, x.1))
    gone_from (suc k) j e = go (any (is_in u (suc j)) cs) refl (gone_from k (suc j) (omega arith))
      where
        more : suc j < length (levels u)
        more = omega arith

        go : (b : Bool) → any (is_in u (suc j)) cs ≡ b → Gone cs (suc k) (run (suc k) (sends (holding u (suc j))) (standing u (ready_for (suc j)) (suc j) cs))
            → Gone cs (suc (suc k)) (run (suc (suc k)) (sends (holding u j)) (standing u (ready_for j) j cs))
        go true q i =
            let x = then cs (stop Silence) (suc k) (holding u j) (holding u (suc j)) (standing u (ready_for j) j cs) (standing u (ready_for (suc j)) (suc j) cs) (sak_frame 0x04)
            (rw (frame_held u j) (hear_more u s j (omega arith) cs f more ∙ rw q)) (rw (frame_held u j) (turn_more u s j (omega arith) cs f more)) (hears_more j more) i.0 in
            (x.0, omega (arith, x.1, i.1))
        go false q i =
            let x = at_once cs (stop Silence) (suc k) (holding u j) (standing u (ready_for j) j cs) [] refl
            (rw (frame_held u j) (hear_more u s j (omega arith) cs f more ∙ rw q))
            (rw (frame_held u j) (turn_more u s j (omega arith) cs f more ∙ standing_none u (ready_for (suc j)) (suc j) cs f (all_false (is_in u (suc j)) cs q))) (hears_none u j) in
            (x.0, omega (arith, x.1))

    -- an empty field is silent at once
    gone : Gone cs (suc (length (levels u))) (wake u cs)
    unfolding wake
    gone = rw (wakes_is u) (go cs f gone_from)
      where
        go : (l : List Card) (g : All Fits l)
            → ((k j : ℕ) → suc (k + j) ≡ length (levels u) → Gone l (suc k) (run (suc k) (sends (holding u j)) (standing u (ready_for j) j l)))
            → Gone l (suc (length (levels u))) (run (suc (length (levels u))) (sends (waking u)) l)
        go [] g i =
            let x = at_once [] (stop Silence) (length (levels u)) (waking u) [] [] refl (unfold heard_from merge in refl) (unfold all_take in refl) (wupa_none u) in
            (x.0, omega (arith, x.1))
        go (c ∷ l) g i =
            let e : suc (length (levels u) - 1) ≡ length (levels u) = omega (arith, some_level) in
            let y : Gone (c ∷ l) (length (levels u)) (run (length (levels u)) (sends (holding u 0)) (standing u (ready_for 0) 0 (c ∷ l))) = rw e at (i (length (levels u) - 1) 0 (omega (arith, some_level))) in
            let x = begun (c ∷ l) (stop Silence) (c ∷ l) g (omega arith) y.0 in
            (x.0, omega (arith, x.1, y.1))

  -- ---- it is there

  module _ (a : List Card) (c : Card) (b : List Card) (fa : All Fits a) (fc : Fits c) (fb : All Fits b) (it : uid_bytes c.uid ≡ uid_bytes u)
      (na : All (λ k. uid_bytes k.uid ≢ uid_bytes u) a) (nb : All (λ k. uid_bytes k.uid ≢ uid_bytes u) b) where
    fit : All Fits (a ++ (c ∷ b))
    fit = all_append Fits a (c ∷ b) fa (fc, fb)

    got_from : (k j : ℕ) → suc (k + j) ≡ length (levels u)
        → Got (a ++ (chosen c ∷ b)) (completes false u (last_sak c)) (suc k) (run (suc k) (sends (holding u j)) (standing u (ready_for j) j (a ++ (c ∷ b))))
    got_from zero j e =
        let l : suc j ≡ length (levels u) = omega arith in
        let oa : All (λ k. is_in u (suc j) k ≡ false) a = rw l (all_zip a (λ k g m. other_out u s k g m) fa na) in
        let ob : All (λ k. is_in u (suc j) k ≡ false) b = rw l (all_zip b (λ k g m. other_out u s k g m) fb nb) in
        let ans : Card → List ℕ = λ k. cond (is_in u (suc j) k) (sak_frame (last_sak k)) [] in
        at_once (a ++ (chosen c ∷ b)) (completes false u (last_sak c)) 0 (holding u j) (standing u (ready_for j) j (a ++ (c ∷ b))) (sak_frame (last_sak c)) (unfold completes in refl)
        (rw (frame_held u j) (hear_last u s j (omega arith) (a ++ (c ∷ b)) fit l ∙ hear_one ans a c b (all_weaken a (λ k i. rw i) oa) (all_weaken b (λ k i. rw i) ob) ∙ rw (own_in u s c fc it (suc j))))
        (rw (frame_held u j) (turn_last u s j (omega arith) (a ++ (c ∷ b)) fit l ∙ standing_one u s active_in (suc j) c fc it a b fa fb oa ob))
        (hears_last j l c.blocks)
    got_from (suc k) j e =
        let more : suc j < length (levels u) = omega arith in
        let i = got_from k (suc j) (omega arith) in
        let x = then (a ++ (chosen c ∷ b)) (completes false u (last_sak c)) (suc k) (holding u j) (holding u (suc j)) (standing u (ready_for j) j (a ++ (c ∷ b))) (standing u (ready_for (suc j)) (suc j) (a ++ (c ∷ b))) (sak_frame 0x04)
        (rw (frame_held u j) (hear_more u s j (omega arith) (a ++ (c ∷ b)) fit more ∙ rw (any_there (is_in u (suc j)) a c b (own_in u s c fc it (suc j))))) (rw (frame_held u j) (turn_more u s j (omega arith) (a ++ (c ∷ b)) fit more)) (hears_more j more) i.0 in
        (x.0, x.1 ∙ ap suc i.1)

    got : Got (a ++ (chosen c ∷ b)) (completes false u (last_sak c)) (suc (length (levels u))) (wake u (a ++ (c ∷ b)))
    unfolding wake
    got =
        let F : List Card = a ++ (chosen c ∷ b) in
        let t : Turn = completes false u (last_sak c) in
        let e : suc (length (levels u) - 1) ≡ length (levels u) = omega (arith, some_level) in
        let y : Got F t (length (levels u)) (run (length (levels u)) (sends (holding u 0)) (standing u (ready_for 0) 0 (a ++ (c ∷ b)))) = rw e at (got_from (length (levels u) - 1) 0 (omega (arith, some_level))) in
        let x = begun F t (a ++ (c ∷ b)) fit (rw length-append (omega arith)) y.0 in
        rw (wakes_is u) (x.0, x.1 ∙ ap suc y.1)

-- ---- the claim

split : {A : Type 0} (G : A → Type 0) (a b : List A) → All G (a ++ b) → All G a × All G b
split G [] b h = (tt, h)
split G (x ∷ a) b h = let i : All G a × All G b = split G a b h.1 in ((h.0, i.0), i.1)

completed : (u : Uid) (b : ℕ) → completes false u b ≡ turn (reader Selected false (replicate 5 0) 0 u b) Selects
unfolding completes
completed u b = refl

pub claim : (cs : List Card) → All Typed cs → within cs ≡ true → (u : Uid) → typed.Typed u → valid u ≡ true → Wakes cs u (wake u cs)
claim cs t w u b v = record { there = λ a c b e it. rw e (there a c b (rw e at fits) (rw e at differ) it); absent = λ n. absent (gone u s cs fits n) }
  where
    s : Sound u
    s = record { ten = b.ten; bytes = b.bytes; is_valid = v }

    fits : All Fits cs
    fits = (within_says cs t w).fits

    differ : apart cs ≡ true
    differ = unfold within in (both (leb (length cs) most_cards && all_fit cs) (apart cs) w).1

    absent : Gone cs (suc (length (levels u))) (wake u cs) → Absent cs u (wake u cs)
    absent g = record { reader_stops = g.0.last; cards = g.0.cards; frames = g.1; unlisted = g.0.found }

    there : (a : List Card) (c : Card) (b : List Card) → All Fits (a ++ (c ∷ b)) → apart (a ++ (c ∷ b)) ≡ true → uid_bytes c.uid ≡ uid_bytes u → Chosen a c b u (wake u (a ++ (c ∷ b)))
    there a c b f d it =
        let p = split Fits a (c ∷ b) f in
        let n = alone c a b d in
        let g = got u s a c b p.0 p.1.0 p.1.1 it (all_weaken a (λ k m q. m (q ∙ sym it)) n.0) (all_weaken b (λ k m q. m (q ∙ sym it)) n.1) in
        record { reader_ends = g.0.last ∙ completed u (last_sak c); cards = g.0.cards; frames = g.1; unlisted = g.0.found }
