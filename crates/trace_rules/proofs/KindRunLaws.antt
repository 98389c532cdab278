-- The last SAK that a sweep hears is that of the card whose UID it lists: the sweep, with the cards that a check lists, is a machine of sweep_rules too.
-- Its frames are those of sweep_rules' own proof. Assumes nothing.
use Rattle.std.specs.Prelude.{◌≡◌, refl, cond, eqb, take, drop}
use Rattle.std.proofs.Common.{sym, ◌∙◌, arith}
use Rattle.std.proofs.Math.Path.{ap, ap₂}
use Prim.Native.Nat.{ℕ, suc, ◌+◌, ◌*◌, ◌≤◌, ◌<◌}
use Rattle.std.proofs.Math.Bool.{Bool, true, false}
use Rattle.std.proofs.Math.Option.{Option, none, some}
use mathlib.Core.List.{List, [], ◌∷◌, ◌++◌, map, append-nil, cons≢nil}
use Rattle.std.proofs.Math.ListN.{length, length-map}
use Rattle.rows.specs.CleanLaws.{not_nil}
use Rattle.rows.specs.Rows.{clean, next, All, is_nil, Bits}
use Rattle.uid.specs.LevelLaws.{wide, InLevels}
use Rattle.uid.specs.Order.{Diff, on, off, diff}
use Rattle.uid.specs.OrderLaws.{Off}
use Rattle.uid.specs.StripLaws.{strip, shape, strip_sound, not_none}
use Rattle.uid.specs.Uid.{place, uid_bytes}
use Rattle.uid.specs.UidLaws.{name, so_far}
use Rattle.selection.specs.SealLaws.{seal}
use Rattle.selection.specs.Selection.{cut, reqa, sak_frame, atqa}
use Rattle.card.specs.Card.{with_state}
use Rattle.card.proofs.CardLaws.{sit₁}
use Rattle.reader.specs.Reader.{blank, frame, hear, hear_atqa, sends, finds}
use Rattle.reader.specs.ReaderLaws.{selecting, place_lvl, lvl, knows, closing, found_closing, asking, opened, closed, hears_atqa, hears_whole, hears_collided, hears_more, hears_last, hears_silence}
use Rattle.field.specs.Field.{all_take, heard_from}
use Rattle.field.specs.HeardLaws.{reads_atqa, length_atqas, reads_clean, reads_clash}
use Rattle.field.specs.Merge.{merge}
use Rattle.sweep_rules.specs.Run.{before, ended, follow, run_of, run, finding}
use Rattle.sweep_rules.specs.Terms.{is_idle}
use Rattle.sweep_rules.proofs.Abstract.{strips, heard, sort, frames, Apart}
use Rattle.sweep_rules.proofs.Early.{law_early_32}
use Rattle.sweep_rules.proofs.First.{put}
use Rattle.sweep_rules.proofs.Idle.{idles, Fits, Resting, idle, halt, resting, idlers, row_in, sizes}
use Rattle.sweep_rules.proofs.IdleRows.{whole_idles, checked_idles, fitting_idles, level_fits, known_bits, Checks, heard_checks}
use Rattle.sweep_rules.proofs.Level.{all_strips}
use Rattle.sweep_rules.proofs.Machine.{View, Open, Machine, machine_swept}
use Rattle.sweep_rules.proofs.Model.{up_lvl, map_nil, last_sak}
use Rattle.sweep_rules.proofs.Round.{turn_req, hear_req, turn_hlt, hear_hlt, turn_anti, hear_anti, turn_more, hear_more, turn_last, hear_last, speaks, this_or}
use Rattle.sweep_rules.proofs.Sitting.{at, sit, sound_halt, idles_halt}
use Rattle.sweep_rules.proofs.Strip.{strips_put}
use Rattle.uid.specs.declared.Level.TheVariants.{One}
use Rattle.card.specs.declared.Card.{Card}
use Rattle.card.specs.declared.CardState.{CardState}
use Rattle.card.specs.declared.CardState.TheVariants.{Ready, Active, Halt}
use Rattle.reader.specs.declared.Phase.TheVariants.{ReqaSent, AnticollisionSent, SelectSent}
use Rattle.reader.specs.declared.Reader.{Reader}
use Rattle.reader.specs.declared.Turn.{Turn}
use Rattle.trace_rules.specs.Trace.{listed}
use Rattle.trace_rules.proofs.ContentLaws.{listing, listed_by}

-- ---- one frame

-- a UID, and whether its card speaks blocks
abbrev pub Item : Type 0
Item = List ℕ × Bool

abbrev pub item : Card → Item
item d = (uid_bytes d.uid, d.blocks)

abbrev Vw : Type 0
Vw = View Item Bool

-- what is listed from a turn on, with the card that this turn may announce
unfoldable goes : ℕ → Turn → List Card → Vw
goes f t F = (map item (listed_by t.answer t.reader (listing f t F)), length (follow t.answer t F (run f t F)).exchanges, true)

tick : (f : ℕ) (r : Reader) (t : Turn) (F F' : List Card) (h : List ℕ) (v : Vw) → heard_from (frame r) F ≡ h → all_take (frame r) F ≡ F' → hear r h ≡ t
    → goes f t F' ≡ v → goes (suc f) (sends r) F ≡ (v.0, suc v.1, v.2)
unfolding goes listing run run_of before sends
tick f r t F F' h v e₁ e₂ e₃ e₅ = rw (e₁, e₂, e₃) (ap (λ w. (w.0, suc w.1, w.2)) e₅)

-- the same where the turn announces a UID
tick_found : (f : ℕ) (r : Reader) (t : Turn) (F F' : List Card) (h : List ℕ) (v : Vw) → heard_from (frame r) F ≡ h → all_take (frame r) F ≡ F' → hear r h ≡ t
    → goes f t F' ≡ v → goes (suc f) (finds r) F ≡ (item (listed r) ∷ v.0, suc v.1, v.2)
unfolding goes listing run run_of before finding finds
tick_found f r t F F' h v e₁ e₂ e₃ e₅ = rw (e₁, e₂, e₃) (ap (λ w. (item (listed r) ∷ w.0, suc w.1, w.2)) e₅)

-- ---- the kinds of the idle cards, by their rows

abbrev Told : (List ℕ → Bool) → List Card → Type 0
Told kind cs = All (λ c. kind (row_in c) ≡ c.blocks) cs

-- the one card whose row is P
speaks_kind : (kind : List ℕ → Bool) (P : List ℕ) (cs : List Card) → Told kind cs → strips P (map row_in cs) ≡ [] ∷ [] → speaks P cs ≡ kind P
unfolding speaks this_or put strips
speaks_kind kind P [] k e = absurd (cons≢nil (sym e))
speaks_kind kind P (c ∷ cs) k e = go (strip P (row_in c)) refl (rw strips_put at e) (speaks_kind kind P cs k.1)
  where
    go : (o : Option (List ℕ)) → strip P (row_in c) ≡ o → put o (strips P (map row_in cs)) ≡ [] ∷ [] → (strips P (map row_in cs) ≡ [] ∷ [] → speaks P cs ≡ kind P)
        → this_or o c.blocks (speaks P cs) ≡ kind P
    go (some t) s e ih =
        let z : t ≡ [] = cc in
        let r : row_in c ≡ P = strip_sound P (row_in c) t s ∙ ap (λ q. P ++ q) z ∙ append-nil P in
        sym k.0 ∙ ap kind r
    go none s e ih = ih e

-- after a round
told_halt : (kind : List ℕ → Bool) (P : List ℕ) (F : List Card) → All Fits F → Told kind (idlers F) → Told kind (idlers (at P Halt F))
unfolding idlers at sit sit₁
told_halt kind P [] h k = tt
told_halt kind P (c ∷ F) h k = go (resting c.state h.0.rests) k (told_halt kind P F h.1)
  where
    go₂ : (o : Option (List ℕ)) → kind (row_in c) ≡ c.blocks → Told kind (idlers (at P Halt F))
        → Told kind (cond (is_idle (sit₁ false Halt o)) (with_state c (sit₁ false Halt o) ∷ idlers (at P Halt F)) (idlers (at P Halt F)))
    go₂ (some t) e ih = ih
    go₂ none e ih = (e, ih)

    go : {y : CardState} → Resting y → Told kind (cond (is_idle y) (c ∷ idlers F) (idlers F)) → (Told kind (idlers F) → Told kind (idlers (at P Halt F)))
        → Told kind (cond (is_idle (sit Halt (strip P (row_in c)) y)) (with_state c (sit Halt (strip P (row_in c)) y) ∷ idlers (at P Halt F)) (idlers (at P Halt F)))
    go idle k ih = go₂ (strip P (row_in c)) k.0 (ih k.1)
    go halt k ih = ih k

-- rows of which none is another's head tell them
pub told : (cs : List Card) → Apart (map row_in cs) → Told (λ P. speaks P cs) cs
unfolding speaks this_or strip shape
told [] a = tt
told (c ∷ cs) a = (here (strip (row_in c) (row_in c)) refl, later cs (λ P. speaks P cs) a.0 (told cs a.1))
  where
    here : (o : Option (List ℕ)) → strip (row_in c) (row_in c) ≡ o → this_or o c.blocks (speaks (row_in c) cs) ≡ c.blocks
    here (some t) e = refl
    here none e = absurd (not_none (row_in c) [] (row_in c) e (sym (append-nil (row_in c))))

    later : (ds : List Card) (k : List ℕ → Bool) → All (λ s. Off (diff (row_in c) s) × Off (diff s (row_in c))) (map row_in ds) → Told k ds → Told (λ P. this_or (strip P (row_in c)) c.blocks (k P)) ds
    later [] k a t = tt
    later (d ∷ ds) k a t = (pick (diff (row_in d) (row_in c)) a.0.1, later ds k a.1 t.1)
      where
        pick : (D : Diff) → Off D → this_or (shape D) c.blocks (k (row_in d)) ≡ d.blocks
        pick (on t) f = absurd f
        pick (off p x) f = t.0

is_kind : (b : Bool) → eqb (cond b 0x20 0x00) 0x20 ≡ b
is_kind true = refl
is_kind false = refl

-- ---- the laws

module _ (f : ℕ) (F : List Card) (hF : All Fits F) (v : Vw) where
  req : 1 ≤ length (idles F) → goes f (opened 0 [] []) (at [] (Ready (lvl 0)) F) ≡ v → goes (suc f) asking F ≡ (v.0, suc v.1, v.2)
  unfolding frame lvl idles sizes asking
  req h k =
      let n : 1 ≤ length (sizes F) = rw length-map (rw length-map at h) in
      tick f (blank ReqaSent true) (opened 0 [] []) F (at [] (Ready One) F) (merge (map atqa (sizes F))) v
      (hear_req F hF) (turn_req F hF) (hears_atqa (merge (map atqa (sizes F))) (not_nil (merge (map atqa (sizes F))) (omega (arith, length_atqas (sizes F) n))) (reads_atqa (sizes F) n))
      k

  module _ (j n : ℕ) (P Q R : List ℕ) (o : Open 32 (idles F) j n P (Q ++ R)) where
    K : List ℕ
    K = Q ++ R

    T : List (List ℕ)
    T = strips (P ++ K) (idles F)

    h : List ℕ
    h = merge (map (λ t. drop (cut (length K)) (seal 5 (K ++ take n t))) T)

    hn : 40 ≡ length (Q ++ R) + n
    unfolding wide
    hn = o.room

    h1 : 1 ≤ n
    h1 = omega (arith, hn, o.early)

    b_k : Bits (Q ++ R)
    b_k = known_bits (idles F) P (Q ++ R) (whole_idles F hF) o.some_in

    h_p : length P ≡ wide * place (lvl j)
    h_p = rw (place_lvl j o.level_ok) o.before

    anti : (t : Turn) → hear (knows (AnticollisionSent (lvl j)) (so_far j P) K) h ≡ t → goes f t (at (P ++ K) (Ready (lvl j)) F) ≡ v
        → goes (suc f) (opened j P K) (at (P ++ Q) (Ready (lvl j)) F) ≡ (v.0, suc v.1, v.2)
    unfolding frame opened knows wide h K T
    anti t e k =
        tick f (knows (AnticollisionSent (lvl j)) (so_far j P) K) t (at (P ++ Q) (Ready (lvl j)) F) (at (P ++ K) (Ready (lvl j)) F) h v
        (hear_anti F hF (lvl j) P Q R h_p b_k n hn h1 o.long) (turn_anti F hF (lvl j) P Q R h_p b_k n hn h1 o.long) e
        k

    clean_law : clean (heard n (strips (P ++ (Q ++ R)) (idles F))) ≡ true
        → goes f (selecting j P (Q ++ R ++ heard n (strips (P ++ (Q ++ R)) (idles F)))) (at (P ++ (Q ++ R)) (Ready (lvl j)) F) ≡ v
        → goes (suc f) (opened j P (Q ++ R)) (at (P ++ Q) (Ready (lvl j)) F) ≡ (v.0, suc v.1, v.2)
    unfolding h K T heard
    clean_law c k =
        let x : Checks (K ++ heard n T) = heard_checks (idles F) j n P K (checked_idles F hF) o b_k c in
        anti (selecting j P (K ++ heard n T))
        (hears_whole j P K (K ++ heard n T) h (reads_clean K n T b_k hn h1 o.some_in o.long c x.y x.is x.bits x.full)) k

    clash_law : clean (heard n (strips (P ++ (Q ++ R)) (idles F))) ≡ false
        → goes f (opened j P (Q ++ R ++ next (heard n (strips (P ++ (Q ++ R)) (idles F))))) (at (P ++ (Q ++ R)) (Ready (lvl j)) F) ≡ v
        → goes (suc f) (opened j P (Q ++ R)) (at (P ++ Q) (Ready (lvl j)) F) ≡ (v.0, suc v.1, v.2)
    unfolding h K T heard
    clash_law c k =
        anti (opened j P (K ++ next (heard n T)))
        (hears_collided j P K (K ++ next (heard n T)) h
        (reads_clash K n T b_k hn h1 o.some_in o.long c (law_early_32 (idles F) j n P K (checked_idles F hF) o c))) k

  module _ (j : ℕ) (P Q R : List ℕ) (hj : j < 3) (before : length P ≡ wide * j) (hw : wide ≡ length (Q ++ R)) (b_x : Bits (Q ++ R)) where
    X : List ℕ
    X = Q ++ R

    h_p' : length P ≡ wide * place (lvl j)
    h_p' = rw (place_lvl j hj) before

    more_law : suc j < 3 → 1 ≤ length (strips (P ++ (Q ++ R)) (idles F)) → All (λ t. is_nil t ≡ false) (strips (P ++ (Q ++ R)) (idles F))
        → goes f (opened (suc j) (P ++ (Q ++ R)) []) (at (P ++ (Q ++ R)) (Ready (lvl (suc j))) F) ≡ v
        → goes (suc f) (selecting j P (Q ++ R)) (at (P ++ Q) (Ready (lvl j)) F) ≡ (v.0, suc v.1, v.2)
    unfolding frame selecting knows wide X
    more_law h left more k =
        tick f (knows (SelectSent (lvl j)) (so_far j P) X) (opened (suc j) (P ++ X) []) (at (P ++ Q) (Ready (lvl j)) F) (at (P ++ X) (Ready (lvl (suc j))) F) (sak_frame 0x04) v
        (hear_more F hF (lvl j) P Q R h_p' b_x hw more left)
        (turn_more F hF (lvl j) P Q R h_p' b_x hw more ∙ ap (λ l. at (P ++ X) (Ready l) F) (up_lvl j h))
        (hears_more j P X before (sym hw) h (level_fits (idles F) j P X before hw true (fitting_idles F hF) left more))
        k

    last_law : strips (P ++ (Q ++ R)) (idles F) ≡ [] ∷ [] → goes f (closed (P ++ (Q ++ R)) (last_sak (P ++ (Q ++ R)) F)) (at (P ++ (Q ++ R)) Active F) ≡ v
        → goes (suc f) (selecting j P (Q ++ R)) (at (P ++ Q) (Ready (lvl j)) F) ≡ (v.0, suc v.1, v.2)
    unfolding frame selecting knows wide X is_nil
    last_law last k =
        let b : Bool = speaks (P ++ X) (idlers F) in
        tick f (knows (SelectSent (lvl j)) (so_far j P) X) (closed (P ++ X) (last_sak (P ++ X) F)) (at (P ++ Q) (Ready (lvl j)) F) (at (P ++ X) Active F) (sak_frame (last_sak (P ++ X) F)) v
        (hear_last F hF (lvl j) P Q R h_p' b_x hw last) (turn_last F hF (lvl j) P Q R h_p' b_x hw last)
        (hears_last j P X before (sym hw) b hj (level_fits (idles F) j P X before hw false (fitting_idles F hF) (rw last (omega arith)) (rw last (refl, tt))))
        k

  -- the found row is a card's
  whole_found : (P : List ℕ) → strips P (idles F) ≡ [] ∷ [] → InLevels 3 P
  whole_found P e =
      let a : All (λ t. InLevels 3 (P ++ t)) (strips P (idles F)) = all_strips (InLevels 3) (λ t. InLevels 3 (P ++ t)) P (idles F) (λ t w. w) (whole_idles F hF) in
      rw append-nil at (rw e at a).0

  hlt_law : (kind : List ℕ → Bool) → Told kind (idlers F) → (P : List ℕ) → strips P (idles F) ≡ [] ∷ [] → goes f asking (at P Halt F) ≡ v
      → goes (suc f) (closed P (last_sak P F)) (at P Active F) ≡ ((name P, kind P) ∷ v.0, suc v.1, v.2)
  unfolding frame closing closed idles
  hlt_law kind t P e k =
      tick_found f (closing P (last_sak P F)) asking (at P Active F) (at P Halt F) [] v (hear_hlt F hF P) (turn_hlt F hF P) (hears_silence P (last_sak P F)) k
      ∙ ap₂ (λ u b. ((u, b) ∷ v.0, suc v.1, v.2)) (found_closing P (last_sak P F) (whole_found P e)) (is_kind (speaks P (idlers F)) ∙ speaks_kind kind P (idlers F) t e)

stop_law : (f : ℕ) (F : List Card) → All Fits F → idles F ≡ [] → goes (suc f) asking F ≡ ([], 1, true)
unfolding goes asking sends listing run run_of before ended frame hear hear_atqa is_nil merge idles sizes
stop_law f F hF e =
    let n : idlers F ≡ [] = map_nil (idlers F) e in
    let h : heard_from reqa F ≡ [] = hear_req F hF ∙ rw n in
    rw h

model : (List ℕ → Bool) → Machine
unfolding wide
model kind = record {
  Base = List Card;
  Good = λ F. All Fits F × Told kind (idlers F);
  idles = idles;
  shut = λ P F. at P Halt F;
  good_shut = λ P F g. (sound_halt P F g.0, told_halt kind P F g.0 g.1);
  idles_shut = λ P F g. idles_halt P F g.0;
  End = Bool;
  final = λ F. true;
  final_shut = λ P F. refl;
  Item = Item;
  name = λ P. (name P, kind P);
  St = Turn × List Card;
  go = λ f s. goes f s.0 s.1;
  asking = λ F. (asking, F);
  opened = λ F j P Q R. (opened j P (Q ++ R), at (P ++ Q) (Ready (lvl j)) F);
  chosen = λ F j P Q X. (selecting j P X, at (P ++ Q) (Ready (lvl j)) F);
  closing = λ F P. (closed P (last_sak P F), at P Active F);
  cap = 32;
  law_early = λ F j n P Q R g o c. law_early_32 (idles F) j n P (Q ++ R) (checked_idles F g.0) o c;
  law_stop = λ f F g e. stop_law f F g.0 e;
  law_req = λ f F v g h k. req f F g.0 v h k;
  law_clean = λ f F j n P Q R v g o c k. clean_law f F g.0 v j n P Q R o c k;
  law_clash = λ f F j n P Q R v g o c k. clash_law f F g.0 v j n P Q R o c k;
  law_more = λ f F j P Q R v g hj h_p hw left more k.
      more_law f F g.0 v j P Q R (omega arith) h_p hw (known_bits (idles F) P (Q ++ R) (whole_idles F g.0) left) hj left more (rw (append-nil (P ++ (Q ++ R))) at k);
  law_last = λ f F j P Q R v g hj h_p hw e k.
      last_law f F g.0 v j P Q R hj h_p hw (known_bits (idles F) P (Q ++ R) (whole_idles F g.0) (rw e (omega arith))) e k;
  law_hlt = λ f F P v g e k. hlt_law f F g.0 v kind g.1 P e k;
}

-- so the cards listed are those of the idle rows, each of its kind
pub kinds_listed : (n : ℕ) (F : List Card) (kind : List ℕ → Bool) → All Fits F → Told kind (idlers F) → Apart (idles F) → frames (sort (idles F)) ≤ n
    → map item (listing n (sends (blank ReqaSent true)) F) ≡ map (λ P. (name P, kind P)) (sort (idles F))
unfolding model goes asking sends
kinds_listed n F kind hF t a h = ap (λ w. w.0) (machine_swept (model kind) n F (hF, t) (whole_idles F hF) a h)
