-- The field of cards and the reader, with their frames, are a machine (proofs/Machine.antt): its laws, one for each kind of frame.
-- Assumes nothing.
use mathlib.Core.Path.{◌≡◌, refl, sym, ap, ◌∙◌}
use Prim.Native.Nat.{ℕ, suc, ◌+◌, ◌*◌, ◌≤◌, ◌<◌, zero}
use mathlib.Core.Bool.{Bool, true, false, cond}
use mathlib.Core.List.{List, [], ◌∷◌, ◌++◌, map, append-nil, cons≢nil}
use lib.ListN.{length, take, drop, length-map}
use native.Mathlib.Omega.{arith}
use Rattle.rows.specs.CleanLaws.{not_nil}
use Rattle.rows.specs.Rows.{clean, next, All, is_nil, Bits}
use Rattle.frame.specs.ByteLaws.{length_bytes}
use Rattle.frame.specs.Frame.{bytes_of}
use Rattle.uid.specs.LevelLaws.{wide, InLevels}
use Rattle.uid.specs.Uid.{place, uid_bytes}
use Rattle.uid.specs.UidLaws.{name, so_far}
use Rattle.selection.specs.SakLaws.{clean_more, clean_last}
use Rattle.selection.specs.SealLaws.{seal}
use Rattle.selection.specs.Selection.{cut, reqa, hlta, anticollision, select, sak_frame, atqa}
use Rattle.selection.specs.SelectionLaws.{length_reqa, length_hlta, length_anti, length_select, length_sak}
use Rattle.card.specs.Card.{up}
use Rattle.reader.specs.Reader.{blank, turn, frame, hear, hear_atqa, sends, finds}
use Rattle.reader.specs.ReaderLaws.{selecting, place_lvl, lvl, knows, closing, found_closing, asking, opened, closed, hears_atqa, hears_whole, hears_collided, hears_more, hears_last, hears_silence}
use Rattle.field.specs.Field.{all_take, heard_from}
use Rattle.field.specs.HeardLaws.{reads_atqa, length_atqas, length_answer, reads_clean, reads_clash}
use Rattle.field.specs.Merge.{merge}
use Rattle.air_log.specs.Log.{sent_heard}
use Rattle.sweep_rules.specs.Demand.{halted}
use Rattle.sweep_rules.specs.Run.{Out, before, ended, follow, run_of, run, finding}
use Rattle.sweep_rules.proofs.Abstract.{strips, heard, sort, frames, Apart}
use Rattle.sweep_rules.proofs.Early.{law_early_32}
use Rattle.sweep_rules.proofs.Idle.{idles, Fits, idlers, row_in, sizes}
use Rattle.sweep_rules.proofs.IdleRows.{whole_idles, checked_idles, fitting_idles, level_fits, known_bits, Checks, heard_checks}
use Rattle.sweep_rules.proofs.Level.{all_strips}
use Rattle.sweep_rules.proofs.LogSize.{small, all_small, small_any, small_clean, small_anti}
use Rattle.sweep_rules.proofs.Machine.{View, Open, Machine, machine_swept}
use Rattle.sweep_rules.proofs.Round.{turn_req, hear_req, turn_hlt, hear_hlt, turn_anti, hear_anti, turn_more, hear_more, turn_last, hear_last, speaks}
use Rattle.sweep_rules.proofs.Sitting.{at, none_idle, sound_halt, idles_halt, halted_at}
use Rattle.uid.specs.declared.Level.{Level}
use Rattle.uid.specs.declared.Level.TheVariants.{One}
use Rattle.card.specs.declared.Card.{Card}
use Rattle.card.specs.declared.CardState.TheVariants.{Ready, Active, Halt}
use Rattle.reader.specs.declared.Answer.TheVariants.{Finishes}
use Rattle.reader.specs.declared.Phase.TheVariants.{Finished, ReqaSent, AnticollisionSent, SelectSent}
use Rattle.reader.specs.declared.Reader.{Reader}
use Rattle.reader.specs.declared.Turn.{Turn}

pub up_lvl : (j : ℕ) → suc j < 3 → up (lvl j) ≡ lvl (suc j)
unfolding lvl
up_lvl zero h = refl
up_lvl (suc zero) h = refl
up_lvl (suc (suc j)) h = absurd (omega arith)

-- ---- one frame

abbrev pub Vw : Type 0
Vw = View (List ℕ) (List Card × Bool × Turn)

unfoldable pub view : Out → Vw
view o = (o.found, length o.exchanges, (o.cards, all_small o.exchanges, o.last))

-- a run from a turn on, with the UID that this turn may announce
unfoldable pub goes : ℕ → Turn → List Card → Vw
unfolding view
goes f t F = view (follow t.answer t F (run f t F))

tick : (f : ℕ) (r : Reader) (t : Turn) (F F' : List Card) (h : List ℕ) (v : Vw) → heard_from (frame r) F ≡ h → all_take (frame r) F ≡ F' → hear r h ≡ t → small (sent_heard (frame r) h) ≡ true
    → goes f t F' ≡ v → goes (suc f) (sends r) F ≡ (v.0, suc v.1, v.2)
unfolding goes run run_of before view all_small sends
tick f r t F F' h v e₁ e₂ e₃ e₄ e₅ = rw (e₁, e₂, e₃, e₄) (ap (λ w. (w.0, suc w.1, w.2)) e₅)

-- the same where the turn announces a UID
tick_found : (f : ℕ) (r : Reader) (t : Turn) (F F' : List Card) (h : List ℕ) (v : Vw) → heard_from (frame r) F ≡ h → all_take (frame r) F ≡ F' → hear r h ≡ t → small (sent_heard (frame r) h) ≡ true
    → goes f t F' ≡ v → goes (suc f) (finds r) F ≡ (uid_bytes r.uid ∷ v.0, suc v.1, v.2)
unfolding goes run run_of before finding view all_small finds
tick_found f r t F F' h v e₁ e₂ e₃ e₄ e₅ = rw (e₁, e₂, e₃, e₄) (ap (λ w. (uid_bytes r.uid ∷ w.0, suc w.1, w.2)) e₅)

-- SELECT and a clean SAK
pub small_sak : (l : Level) (five : List ℕ) (b : ℕ) → length five ≡ 5 → clean (sak_frame b) ≡ true → small (sent_heard (select l five) (sak_frame b)) ≡ true
small_sak l five b h c = small_clean (select l five) (sak_frame b) (rw (length_select l five h) (omega arith)) c (rw (length_select l five h, length_sak b) (omega arith))

pub map_nil : (cs : List Card) → map row_in cs ≡ [] → cs ≡ []
map_nil [] e = refl
map_nil (c ∷ cs) e = absurd (cons≢nil e)

-- ---- the laws

-- the last SAK of the round that finds P
abbrev pub last_sak : List ℕ → List Card → ℕ
last_sak P F = cond (speaks P (idlers F)) 0x20 0x00

module _ (f : ℕ) (F : List Card) (hF : All Fits F) (v : Vw) where
  req : 1 ≤ length (idles F) → goes f (opened 0 [] []) (at [] (Ready (lvl 0)) F) ≡ v → goes (suc f) asking F ≡ (v.0, suc v.1, v.2)
  unfolding frame lvl idles sizes asking
  req h k =
      let n : 1 ≤ length (sizes F) = rw length-map (rw length-map at h) in
      tick f (blank ReqaSent true) (opened 0 [] []) F (at [] (Ready One) F) (merge (map atqa (sizes F))) v
      (hear_req F hF) (turn_req F hF) (hears_atqa (merge (map atqa (sizes F))) (not_nil (merge (map atqa (sizes F))) (omega (arith, length_atqas (sizes F) n))) (reads_atqa (sizes F) n))
      (small_any reqa (merge (map atqa (sizes F))) (rw length_reqa (omega arith)) (rw (length_reqa, length_atqas (sizes F) n) (omega arith))) k

  module _ (j n : ℕ) (P Q R : List ℕ) (o : Open 32 (idles F) j n P (Q ++ R)) where
    K : List ℕ
    K = Q ++ R

    T : List (List ℕ)
    T = strips (P ++ K) (idles F)

    h : List ℕ
    h = merge (map (λ t. drop (cut (length K)) (seal 5 (K ++ take n t))) T)

    hn : 40 ≡ length (Q ++ R) + n
    unfolding wide
    hn = o.room

    h1 : 1 ≤ n
    h1 = omega (arith, hn, o.early)

    b_k : Bits (Q ++ R)
    b_k = known_bits (idles F) P (Q ++ R) (whole_idles F hF) o.some_in

    h_p : length P ≡ wide * place (lvl j)
    h_p = rw (place_lvl j o.level_ok) o.before

    anti : (t : Turn) → hear (knows (AnticollisionSent (lvl j)) (so_far j P) K) h ≡ t → goes f t (at (P ++ K) (Ready (lvl j)) F) ≡ v
        → goes (suc f) (opened j P K) (at (P ++ Q) (Ready (lvl j)) F) ≡ (v.0, suc v.1, v.2)
    unfolding frame opened knows wide h K T
    anti t e k =
        tick f (knows (AnticollisionSent (lvl j)) (so_far j P) K) t (at (P ++ Q) (Ready (lvl j)) F) (at (P ++ K) (Ready (lvl j)) F) h v
        (hear_anti F hF (lvl j) P Q R h_p b_k n hn h1 o.long) (turn_anti F hF (lvl j) P Q R h_p b_k n hn h1 o.long) e
        (small_anti (anticollision (lvl j) (length K) (bytes_of 5 K)) h (cut (length K)) (omega arith)
        (length_anti (lvl j) (length K) (bytes_of 5 K) (length_bytes 5 K) (omega arith)) (length_answer K n T b_k hn h1 o.some_in o.long)) k

    clean_law : clean (heard n (strips (P ++ (Q ++ R)) (idles F))) ≡ true
        → goes f (selecting j P (Q ++ R ++ heard n (strips (P ++ (Q ++ R)) (idles F)))) (at (P ++ (Q ++ R)) (Ready (lvl j)) F) ≡ v
        → goes (suc f) (opened j P (Q ++ R)) (at (P ++ Q) (Ready (lvl j)) F) ≡ (v.0, suc v.1, v.2)
    unfolding h K T heard
    clean_law c k =
        let x : Checks (K ++ heard n T) = heard_checks (idles F) j n P K (checked_idles F hF) o b_k c in
        anti (selecting j P (K ++ heard n T))
        (hears_whole j P K (K ++ heard n T) h (reads_clean K n T b_k hn h1 o.some_in o.long c x.y x.is x.bits x.full)) k

    clash_law : clean (heard n (strips (P ++ (Q ++ R)) (idles F))) ≡ false
        → goes f (opened j P (Q ++ R ++ next (heard n (strips (P ++ (Q ++ R)) (idles F))))) (at (P ++ (Q ++ R)) (Ready (lvl j)) F) ≡ v
        → goes (suc f) (opened j P (Q ++ R)) (at (P ++ Q) (Ready (lvl j)) F) ≡ (v.0, suc v.1, v.2)
    unfolding h K T heard
    clash_law c k =
        anti (opened j P (K ++ next (heard n T)))
        (hears_collided j P K (K ++ next (heard n T)) h
        (reads_clash K n T b_k hn h1 o.some_in o.long c (law_early_32 (idles F) j n P K (checked_idles F hF) o c))) k

  module _ (j : ℕ) (P Q R : List ℕ) (hj : j < 3) (before : length P ≡ wide * j) (hw : wide ≡ length (Q ++ R)) (b_x : Bits (Q ++ R)) where
    X : List ℕ
    X = Q ++ R

    h_p' : length P ≡ wide * place (lvl j)
    h_p' = rw (place_lvl j hj) before

    more_law : suc j < 3 → 1 ≤ length (strips (P ++ (Q ++ R)) (idles F)) → All (λ t. is_nil t ≡ false) (strips (P ++ (Q ++ R)) (idles F))
        → goes f (opened (suc j) (P ++ (Q ++ R)) []) (at (P ++ (Q ++ R)) (Ready (lvl (suc j))) F) ≡ v
        → goes (suc f) (selecting j P (Q ++ R)) (at (P ++ Q) (Ready (lvl j)) F) ≡ (v.0, suc v.1, v.2)
    unfolding frame selecting knows wide X
    more_law h some more k =
        tick f (knows (SelectSent (lvl j)) (so_far j P) X) (opened (suc j) (P ++ X) []) (at (P ++ Q) (Ready (lvl j)) F) (at (P ++ X) (Ready (lvl (suc j))) F) (sak_frame 0x04) v
        (hear_more F hF (lvl j) P Q R h_p' b_x hw more some)
        (turn_more F hF (lvl j) P Q R h_p' b_x hw more ∙ ap (λ l. at (P ++ X) (Ready l) F) (up_lvl j h))
        (hears_more j P X before (sym hw) h (level_fits (idles F) j P X before hw true (fitting_idles F hF) some more))
        (small_sak (lvl j) (bytes_of 5 X) 0x04 (length_bytes 5 X) clean_more) k

    last_law : strips (P ++ (Q ++ R)) (idles F) ≡ [] ∷ [] → goes f (closed (P ++ (Q ++ R)) (last_sak (P ++ (Q ++ R)) F)) (at (P ++ (Q ++ R)) Active F) ≡ v
        → goes (suc f) (selecting j P (Q ++ R)) (at (P ++ Q) (Ready (lvl j)) F) ≡ (v.0, suc v.1, v.2)
    unfolding frame selecting knows wide X is_nil
    last_law last k =
        let b : Bool = speaks (P ++ X) (idlers F) in
        tick f (knows (SelectSent (lvl j)) (so_far j P) X) (closed (P ++ X) (last_sak (P ++ X) F)) (at (P ++ Q) (Ready (lvl j)) F) (at (P ++ X) Active F) (sak_frame (last_sak (P ++ X) F)) v
        (hear_last F hF (lvl j) P Q R h_p' b_x hw last) (turn_last F hF (lvl j) P Q R h_p' b_x hw last)
        (hears_last j P X before (sym hw) b hj (level_fits (idles F) j P X before hw false (fitting_idles F hF) (rw last (omega arith)) (rw last (refl, tt))))
        (small_sak (lvl j) (bytes_of 5 X) (last_sak (P ++ X) F) (length_bytes 5 X) (clean_last b)) k

  -- the found row is a card's
  whole_found : (P : List ℕ) → strips P (idles F) ≡ [] ∷ [] → InLevels 3 P
  whole_found P e =
      let a : All (λ t. InLevels 3 (P ++ t)) (strips P (idles F)) = all_strips (InLevels 3) (λ t. InLevels 3 (P ++ t)) P (idles F) (λ t w. w) (whole_idles F hF) in
      rw append-nil at (rw e at a).0

  hlt_law : (P : List ℕ) → strips P (idles F) ≡ [] ∷ [] → goes f asking (at P Halt F) ≡ v
      → goes (suc f) (closed P (last_sak P F)) (at P Active F) ≡ (name P ∷ v.0, suc v.1, v.2)
  unfolding frame closing closed
  hlt_law P e k =
      tick_found f (closing P (last_sak P F)) asking (at P Active F) (at P Halt F) [] v (hear_hlt F hF P) (turn_hlt F hF P) (hears_silence P (last_sak P F))
      (small_any hlta [] (rw length_hlta (omega arith)) (rw length_hlta (omega arith))) k
      ∙ ap (λ u. (u ∷ v.0, suc v.1, v.2)) (found_closing P (last_sak P F) (whole_found P e))

stop_law : (f : ℕ) (F : List Card) → All Fits F → idles F ≡ [] → goes (suc f) asking F ≡ ([], 1, (map halted F, true, turn (blank Finished false) Finishes))
unfolding goes asking sends run run_of before ended view all_small frame hear hear_atqa is_nil merge idles sizes
stop_law f F hF e =
    let n : idlers F ≡ [] = map_nil (idlers F) e in
    let h : heard_from reqa F ≡ [] = hear_req F hF ∙ rw n in
    rw (h, turn_req F hF, none_idle [] (Ready One) F hF n, small_any reqa [] (rw length_reqa (omega arith)) (rw length_reqa (omega arith)))

model : Machine
unfolding wide
model = record {
  Base = List Card;
  Good = λ F. All Fits F;
  idles = idles;
  shut = λ P F. at P Halt F;
  good_shut = sound_halt;
  idles_shut = idles_halt;
  End = List Card × Bool × Turn;
  final = λ F. (map halted F, true, turn (blank Finished false) Finishes);
  final_shut = λ P F. ap (λ cs. (cs, true, turn (blank Finished false) Finishes)) (halted_at P Halt F);
  Item = List ℕ;
  name = name;
  St = Turn × List Card;
  go = λ f s. goes f s.0 s.1;
  asking = λ F. (asking, F);
  opened = λ F j P Q R. (opened j P (Q ++ R), at (P ++ Q) (Ready (lvl j)) F);
  chosen = λ F j P Q X. (selecting j P X, at (P ++ Q) (Ready (lvl j)) F);
  closing = λ F P. (closed P (last_sak P F), at P Active F);
  cap = 32;
  law_early = λ F j n P Q R hF o c. law_early_32 (idles F) j n P (Q ++ R) (checked_idles F hF) o c;
  law_stop = stop_law;
  law_req = λ f F v hF h k. req f F hF v h k;
  law_clean = λ f F j n P Q R v hF o c k. clean_law f F hF v j n P Q R o c k;
  law_clash = λ f F j n P Q R v hF o c k. clash_law f F hF v j n P Q R o c k;
  law_more = λ f F j P Q R v hF hj h_p hw some more k.
      more_law f F hF v j P Q R (omega arith) h_p hw (known_bits (idles F) P (Q ++ R) (whole_idles F hF) some) hj some more (rw (append-nil (P ++ (Q ++ R))) at k);
  law_last = λ f F j P Q R v hF hj h_p hw e k.
      last_law f F hF v j P Q R hj h_p hw (known_bits (idles F) P (Q ++ R) (whole_idles F hF) (rw e (omega arith))) e k;
  law_hlt = λ f F P v hF e k. hlt_law f F hF v P e k;
}

-- so the run is the sweep over the rows of the idle cards
pub model_swept : (g : ℕ) (F : List Card) → All Fits F → Apart (idles F) → frames (sort (idles F)) ≤ g
    → view (run g (sends (blank ReqaSent true)) F) ≡ (map name (sort (idles F)), frames (sort (idles F)), (map halted F, true, turn (blank Finished false) Finishes))
unfolding model goes asking sends
model_swept g F hF a h = machine_swept model g F hF (whole_idles F hF) a h
