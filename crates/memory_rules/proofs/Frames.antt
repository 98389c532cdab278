-- The field of cards and the reader that remembers: a law for each kind of frame. F is the field at the round's start. Assumes nothing.
use mathlib.Core.Path.{◌≡◌, refl, sym, ap, ◌∙◌}
use Prim.Native.Nat.{ℕ, suc, ◌+◌, ◌*◌, ◌≤◌, ◌<◌}
use mathlib.Core.Bool.{Bool, true, false, cond}
use mathlib.Core.List.{List, [], ◌∷◌, ◌++◌, map}
use lib.ListN.{length, take, drop, length-map, length-append}
use native.Mathlib.Omega.{arith}
use Rattle.rows.specs.CleanLaws.{not_nil, next_clean}
use Rattle.rows.specs.ListLaws.{all_append}
use Rattle.rows.specs.Rows.{clean, next, All, is_nil, Bits}
use Rattle.frame.specs.ByteLaws.{length_bytes}
use Rattle.frame.specs.Frame.{bytes_of}
use Rattle.uid.specs.LevelLaws.{wide, InLevels}
use Rattle.uid.specs.Uid.{place, uid_bytes}
use Rattle.uid.specs.UidLaws.{name, so_far}
use Rattle.selection.specs.SakLaws.{clean_more, clean_last}
use Rattle.selection.specs.SealLaws.{seal}
use Rattle.selection.specs.Selection.{cut, reqa, hlta, anticollision, sak_frame, atqa}
use Rattle.selection.specs.SelectionLaws.{length_reqa, length_hlta, length_anti}
use Rattle.reader.specs.Reader.{blank, turn, frame, sends, finds}
use Rattle.reader.specs.ReaderLaws.{selecting, place_lvl, lvl, knows, closing, found_closing, asking, opened, closed}
use Rattle.field.specs.Field.{all_take, heard_from}
use Rattle.field.specs.HeardLaws.{reads_atqa, length_atqas, length_answer, reads_clean, reads_clash}
use Rattle.field.specs.Merge.{merge}
use Rattle.air_log.specs.Log.{sent_heard}
use Rattle.memory.specs.LevelReadLaws.{next_bits}
use Rattle.memory.specs.Memory.{recall, branch, keeping, hear}
use Rattle.air_log.specs.Log.{sent_heard}
use Rattle.memory.proofs.MemoryLaws.{entering, recalls_atqa, recalls_end, recalls_whole, recalls_collided, recalls_more, recalls_last, recalls_silence}
use Rattle.sweep_rules.specs.Demand.{halted}
use Rattle.sweep_rules.specs.Run.{before, ended, follow, run_of, finding}
use Rattle.sweep_rules.proofs.Abstract.{strips, heard}
use Rattle.sweep_rules.proofs.Early.{law_early_32}
use Rattle.sweep_rules.proofs.Idle.{idles, Fits, idlers, sizes}
use Rattle.sweep_rules.proofs.IdleRows.{whole_idles, checked_idles, fitting_idles, level_fits, known_bits, Checks, heard_checks}
use Rattle.sweep_rules.proofs.LogSize.{small, all_small, small_any, small_anti}
use Rattle.sweep_rules.proofs.Machine.{Open}
use Rattle.sweep_rules.proofs.Model.{Vw, view, up_lvl, small_sak, map_nil, last_sak}
use Rattle.sweep_rules.proofs.Round.{turn_req, hear_req, turn_hlt, hear_hlt, turn_anti, hear_anti, turn_more, hear_more, turn_last, hear_last, speaks}
use Rattle.sweep_rules.proofs.Sitting.{at, none_idle}
use Rattle.sweep_rules.proofs.Step.{Step, step}
use Rattle.memory_rules.specs.Run.{run}
use Rattle.memory_rules.proofs.Marks.{marks, step_marks}
use Rattle.uid.specs.declared.Level.TheVariants.{One}
use Rattle.card.specs.declared.Card.{Card}
use Rattle.card.specs.declared.CardState.TheVariants.{Ready, Active, Halt}
use Rattle.reader.specs.declared.Answer.TheVariants.{Finishes}
use Rattle.reader.specs.declared.Phase.TheVariants.{Finished, ReqaSent, AnticollisionSent, SelectSent}
use Rattle.reader.specs.declared.Reader.{Reader}
use Rattle.reader.specs.declared.Turn.{Turn}

-- ---- one frame

-- a run from a turn on, the path being w, with the UID that this turn may announce
unfoldable pub goes : ℕ → Turn → List ℕ → List Card → Vw
unfolding view
goes f t w F = view (follow t.answer t F (run f (recall t w) F))

-- k frames that find nothing
abbrev pub more : ℕ → Vw → Vw
more k v = (v.0, k + v.1, v.2)

abbrev pub up : Vw → Vw
up v = (v.0, suc v.1, v.2)

tick : (f : ℕ) (r : Reader) (w : List ℕ) (t : Turn) (w' : List ℕ) (F F' : List Card) (h : List ℕ) (v : Vw) → heard_from (frame r) F ≡ h → all_take (frame r) F ≡ F' → hear r w h ≡ recall t w'
    → small (sent_heard (frame r) h) ≡ true → goes f t w' F' ≡ v → goes (suc f) (sends r) w F ≡ up v
unfolding goes run run_of before view all_small sends
tick f r w t w' F F' h v e₁ e₂ e₃ e₄ e₅ = rw (e₁, e₂, e₃, e₄) (ap up e₅)

-- the same where the turn announces a UID
tick_found : (f : ℕ) (r : Reader) (w : List ℕ) (t : Turn) (w' : List ℕ) (F F' : List Card) (h : List ℕ) (v : Vw) → heard_from (frame r) F ≡ h → all_take (frame r) F ≡ F' → hear r w h ≡ recall t w'
    → small (sent_heard (frame r) h) ≡ true → goes f t w' F' ≡ v → goes (suc f) (finds r) w F ≡ (uid_bytes r.uid ∷ v.0, suc v.1, v.2)
unfolding goes run run_of before finding view all_small finds
tick_found f r w t w' F F' h v e₁ e₂ e₃ e₄ e₅ = rw (e₁, e₂, e₃, e₄) (ap (λ u. (uid_bytes r.uid ∷ u.0, suc u.1, u.2)) e₅)

-- ---- the laws

module _ (f : ℕ) (F : List Card) (hF : All Fits F) (v : Vw) where
  pub req : (w : List ℕ) → 1 ≤ length (idles F) → goes f (entering 0 [] (branch w)) (branch w) (at [] (Ready (lvl 0)) F) ≡ v → goes (suc f) asking w F ≡ up v
  unfolding frame lvl idles sizes asking
  req w h k =
      let n : 1 ≤ length (sizes F) = rw length-map (rw length-map at h) in
      let a : List ℕ = merge (map atqa (sizes F)) in
      tick f (blank ReqaSent true) w (entering 0 [] (branch w)) (branch w) F (at [] (Ready One) F) a v
      (hear_req F hF) (turn_req F hF) (recalls_atqa w a (not_nil a (omega (arith, length_atqas (sizes F) n))) (reads_atqa (sizes F) n))
      (small_any reqa a (rw length_reqa (omega arith)) (rw (length_reqa, length_atqas (sizes F) n) (omega arith))) k

  module _ (j n : ℕ) (P Q R w : List ℕ) (o : Open 32 (idles F) j n P (Q ++ R)) (known : length w ≡ 40 * j + length (Q ++ R)) where
    K : List ℕ
    K = Q ++ R

    T : List (List ℕ)
    T = strips (P ++ K) (idles F)

    -- the answer, and what of the level is heard
    h : List ℕ
    h = merge (map (λ t. drop (cut (length K)) (seal 5 (K ++ take n t))) T)

    H : List ℕ
    H = heard n T

    hn : 40 ≡ length (Q ++ R) + n
    unfolding wide
    hn = o.room

    h1 : 1 ≤ n
    h1 = omega (arith, hn, o.early)

    b_k : Bits (Q ++ R)
    b_k = known_bits (idles F) P (Q ++ R) (whole_idles F hF) o.some_in

    h_p : length P ≡ wide * place (lvl j)
    h_p = rw (place_lvl j o.level_ok) o.before

    b_x : Bits (K ++ next H)
    unfolding K
    b_x = all_append (λ x. x < 2) K (next H) b_k (next_bits H)

    anti : (t : Turn) (w' : List ℕ) → hear (knows (AnticollisionSent (lvl j)) (so_far j P) K) w h ≡ recall t w' → goes f t w' (at (P ++ K) (Ready (lvl j)) F) ≡ v
        → goes (suc f) (opened j P K) w (at (P ++ Q) (Ready (lvl j)) F) ≡ up v
    unfolding frame opened knows wide h K T
    anti t w' e k =
        tick f (knows (AnticollisionSent (lvl j)) (so_far j P) K) w t w' (at (P ++ Q) (Ready (lvl j)) F) (at (P ++ K) (Ready (lvl j)) F) h v
        (hear_anti F hF (lvl j) P Q R h_p b_k n hn h1 o.long) (turn_anti F hF (lvl j) P Q R h_p b_k n hn h1 o.long) e
        (small_anti (anticollision (lvl j) (length K) (bytes_of 5 K)) h (cut (length K)) (omega arith)
        (length_anti (lvl j) (length K) (bytes_of 5 K) (length_bytes 5 K) (omega arith)) (length_answer K n T b_k hn h1 o.some_in o.long)) k

    -- the path goes on with what was heard
    path_is : (c : Bool) → clean H ≡ c → marks (next H) T ≡ cond c (next H) (keeping (next H))
    unfolding H T K
    path_is c e = step_marks n T o.some_in o.long o.bits ∙ ap (λ b. cond b (next H) (keeping (next H))) e

    pub clean_law : clean (heard n (strips (P ++ (Q ++ R)) (idles F))) ≡ true
        → goes f (selecting j P (Q ++ R ++ next (heard n (strips (P ++ (Q ++ R)) (idles F))))) (w ++ marks (next (heard n (strips (P ++ (Q ++ R)) (idles F)))) (strips (P ++ (Q ++ R)) (idles F))) (at (P ++ (Q ++ R)) (Ready (lvl j)) F) ≡ v
        → goes (suc f) (opened j P (Q ++ R)) w (at (P ++ Q) (Ready (lvl j)) F) ≡ up v
    unfolding h H K T heard
    clean_law c k =
        let x : Checks (K ++ H) = heard_checks (idles F) j n P K (checked_idles F hF) o b_k c in
        let s : Step n T (next H) true = rw c at (step n T o.some_in o.long o.bits) in
        let e : next H ≡ H = next_clean H c in
        anti (selecting j P (K ++ next H)) (w ++ marks (next H) T)
        (rw (path_is true c) (recalls_whole j P K (next H) w h o.level_ok known b_x (rw length-append (omega (arith, s.fit, hn)))
        (rw e (reads_clean K n T b_k hn h1 o.some_in o.long c x.y x.is x.bits x.full)))) k

    pub clash_law : clean (heard n (strips (P ++ (Q ++ R)) (idles F))) ≡ false
        → goes f (opened j P (Q ++ R ++ next (heard n (strips (P ++ (Q ++ R)) (idles F))))) (w ++ marks (next (heard n (strips (P ++ (Q ++ R)) (idles F)))) (strips (P ++ (Q ++ R)) (idles F))) (at (P ++ (Q ++ R)) (Ready (lvl j)) F) ≡ v
        → goes (suc f) (opened j P (Q ++ R)) w (at (P ++ Q) (Ready (lvl j)) F) ≡ up v
    unfolding h H K T heard
    clash_law c k =
        let m : length (K ++ next H) ≤ 32 = law_early_32 (idles F) j n P K (checked_idles F hF) o c in
        anti (opened j P (K ++ next H)) (w ++ marks (next H) T)
        (rw (path_is false c) (recalls_collided j P K (next H) w h o.level_ok known b_x (omega arith) (reads_clash K n T b_k hn h1 o.some_in o.long c m))) k

  module _ (j : ℕ) (P Q R w : List ℕ) (hj : j < 3) (before : length P ≡ wide * j) (hw : wide ≡ length (Q ++ R)) (some : 1 ≤ length (strips (P ++ (Q ++ R)) (idles F))) where
    X : List ℕ
    X = Q ++ R

    b : Bits (Q ++ R)
    b = known_bits (idles F) P (Q ++ R) (whole_idles F hF) some

    h_p' : length P ≡ wide * place (lvl j)
    h_p' = rw (place_lvl j hj) before

    pub more_law : suc j < 3 → All (λ t. is_nil t ≡ false) (strips (P ++ (Q ++ R)) (idles F))
        → goes f (entering (suc j) (P ++ (Q ++ R)) w) w (at (P ++ (Q ++ R)) (Ready (lvl (suc j))) F) ≡ v
        → goes (suc f) (selecting j P (Q ++ R)) w (at (P ++ Q) (Ready (lvl j)) F) ≡ up v
    unfolding frame selecting knows wide X
    more_law h rest k =
        tick f (knows (SelectSent (lvl j)) (so_far j P) X) w (entering (suc j) (P ++ X) w) w (at (P ++ Q) (Ready (lvl j)) F) (at (P ++ X) (Ready (lvl (suc j))) F) (sak_frame 0x04) v
        (hear_more F hF (lvl j) P Q R h_p' b hw rest some)
        (turn_more F hF (lvl j) P Q R h_p' b hw rest ∙ ap (λ l. at (P ++ X) (Ready l) F) (up_lvl j h))
        (recalls_more j P X w before (sym hw) h (level_fits (idles F) j P X before hw true (fitting_idles F hF) some rest))
        (small_sak (lvl j) (bytes_of 5 X) 0x04 (length_bytes 5 X) clean_more) k

    pub last_law : strips (P ++ (Q ++ R)) (idles F) ≡ [] ∷ [] → goes f (closed (P ++ (Q ++ R)) (last_sak (P ++ (Q ++ R)) F)) w (at (P ++ (Q ++ R)) Active F) ≡ v
        → goes (suc f) (selecting j P (Q ++ R)) w (at (P ++ Q) (Ready (lvl j)) F) ≡ up v
    unfolding frame selecting knows wide X is_nil
    last_law last k =
        let s : Bool = speaks (P ++ X) (idlers F) in
        tick f (knows (SelectSent (lvl j)) (so_far j P) X) w (closed (P ++ X) (last_sak (P ++ X) F)) w (at (P ++ Q) (Ready (lvl j)) F) (at (P ++ X) Active F) (sak_frame (last_sak (P ++ X) F)) v
        (hear_last F hF (lvl j) P Q R h_p' b hw last) (turn_last F hF (lvl j) P Q R h_p' b hw last)
        (recalls_last j P X w before (sym hw) s hj (level_fits (idles F) j P X before hw false (fitting_idles F hF) some (rw last (refl, tt))))
        (small_sak (lvl j) (bytes_of 5 X) (last_sak (P ++ X) F) (length_bytes 5 X) (clean_last s)) k

  pub hlt_law : (P w : List ℕ) → InLevels 3 P → goes f asking w (at P Halt F) ≡ v
      → goes (suc f) (closed P (last_sak P F)) w (at P Active F) ≡ (name P ∷ v.0, suc v.1, v.2)
  unfolding frame closing closed
  hlt_law P w i k =
      tick_found f (closing P (last_sak P F)) w asking w (at P Active F) (at P Halt F) [] v (hear_hlt F hF P) (turn_hlt F hF P) (recalls_silence P w (last_sak P F))
      (small_any hlta [] (rw length_hlta (omega arith)) (rw length_hlta (omega arith))) k
      ∙ ap (λ u. (u ∷ v.0, suc v.1, v.2)) (found_closing P (last_sak P F) i)

unfoldable pub final : List Card → List Card × Bool × Turn
final F = (map halted F, true, turn (blank Finished false) Finishes)

pub stop_law : (f : ℕ) (F : List Card) (w : List ℕ) → All Fits F → idles F ≡ [] → goes (suc f) asking w F ≡ ([], 1, final F)
unfolding goes asking sends run run_of before ended view all_small frame is_nil merge idles sizes final
stop_law f F w hF e =
    let n : idlers F ≡ [] = map_nil (idlers F) e in
    let h : heard_from reqa F ≡ [] = hear_req F hF ∙ rw n in
    rw (h, turn_req F hF, none_idle [] (Ready One) F hF n, small_any reqa [] (rw length_reqa (omega arith)) (rw length_reqa (omega arith)), recalls_end w)
