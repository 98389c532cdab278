-- From the level in which a branch ends: that level with its SELECT, and the levels after it. F is the field at the round's start. Assumes nothing.
use mathlib.Core.Path.{◌≡◌, refl, sym, ap, ◌∙◌}
use Prim.Native.Nat.{ℕ, zero, suc, ◌+◌, ◌-◌, ◌*◌, ◌≤◌, ◌<◌}
use native.Mathlib.Nat.{suc-add}
use mathlib.Core.Bool.{Bool, true, false, cond}
use mathlib.Core.List.{List, [], ◌++◌, append-nil, append_assoc}
use lib.ListN.{length, length-append}
use native.Mathlib.Numerals.{one-add}
use native.Mathlib.Omega.{arith}
use Rattle.rows.specs.EachLaws.{bits_right}
use Rattle.rows.specs.Rows.{clean, next, any, All, is_nil, Bits}
use Rattle.uid.specs.LevelLaws.{wide, InLevels}
use Rattle.reader.specs.ReaderLaws.{lvl, opened, selecting, closed}
use Rattle.memory.specs.Memory.{bits}
use Rattle.memory.proofs.MemoryLaws.{entering, enters_open}
use Rattle.memory.specs.EnterLaws.{length_bits, bits_append}
use Rattle.sweep_rules.proofs.Abstract.{strips, heard, level, select, Apart}
use Rattle.sweep_rules.proofs.Early.{law_early_32}
use Rattle.sweep_rules.proofs.First.{strips_nil, strips_append}
use Rattle.sweep_rules.proofs.Idle.{idles, Fits}
use Rattle.sweep_rules.proofs.IdleRows.{whole_idles, checked_idles, known_bits}
use Rattle.sweep_rules.proofs.Level.{all_strips, Level, level_holds}
use Rattle.sweep_rules.proofs.Machine.{Open, none_nil, whole_some}
use Rattle.sweep_rules.proofs.Model.{Vw, last_sak}
use Rattle.sweep_rules.proofs.Select.{apart_strips, ended, whole_next}
use Rattle.sweep_rules.proofs.Sitting.{at}
use Rattle.sweep_rules.proofs.Step.{Step, step}
use Rattle.memory_rules.proofs.Frames.{goes, more, up, clean_law, clash_law, more_law, last_law}
use Rattle.memory_rules.proofs.From.{from, select_from, full, left, long_open, bits_open}
use Rattle.memory_rules.proofs.Marks.{marks, marks_append, length_marks, bits_marks}
use Rattle.card.specs.declared.Card.{Card}
use Rattle.card.specs.declared.CardState.TheVariants.{Ready, Active}

-- the first level's bits behind K; all of them; the path then
behind : List ℕ → List (List ℕ) → List ℕ
behind K T = (level (wide - length K) (wide - length K) (strips K T)).0

whole : List ℕ → List (List ℕ) → List ℕ
whole K T = K ++ behind K T

along : List ℕ → List ℕ → List (List ℕ) → List ℕ
along w K T = w ++ marks (behind K T) (strips K T)

module _ (F : List Card) (hF : All Fits F) where
  -- HLTA comes next: W is the row that was found, w the path
  unfoldable pub ending : ℕ → List ℕ → List ℕ → Vw
  ending f W w = goes f (closed W (last_sak W F)) w (at W Active F)

  -- ---- a level, up to its SELECT: X are all bits of the level

  module _ (P : List ℕ) (j : ℕ) (h_p : length P ≡ wide * j) (hj : j < 3) where
    level_run : (f lf n : ℕ) (Q R X w : List ℕ) (T : List (List ℕ)) (v : Vw)
        → T ≡ strips (P ++ (Q ++ R)) (idles F) → X ≡ Q ++ R ++ (level lf n T).0
        → n ≤ lf → wide ≡ length (Q ++ R) + n → length (Q ++ R) ≤ 32 → length w ≡ 40 * j + length (Q ++ R) → 1 ≤ length T → All (λ r. n ≤ length r) T → All Bits T
        → ((Q₁ R₁ : List ℕ) → Q₁ ++ R₁ ≡ X → goes f (selecting j P X) (w ++ marks (level lf n T).0 T) (at (P ++ Q₁) (Ready (lvl j)) F) ≡ v)
        → goes (suc (level lf n T).1 + f) (opened j P (Q ++ R)) w (at (P ++ Q) (Ready (lvl j)) F) ≡ more (suc (level lf n T).1) v
    unfolding level
    level_run f zero n Q R X w T v e_t eX hn hw hc hk hT hl hb k = unfold wide in absurd (omega (arith, hw))
    level_run f (suc lf) n Q R X w T v e_t eX hn hw hc hk hT hl hb k = turn (clean H) refl eX k (step n T hT hl hb)
        (λ h₁ h₂ hc' hT' eX' k'. level_run f lf (n - length R') (Q ++ R) R' X (w ++ marks R' T) (strips R' T) v
        (ap (strips R') e_t ∙ sym (strips_append (P ++ (Q ++ R)) R' (idles F)) ∙ ap (λ l. strips l (idles F)) (append_assoc P (Q ++ R) R'))
        eX' (omega arith) (rw length-append (omega arith)) hc' (rw (length-append, length-append, length_marks) (omega arith)) hT'
        (all_strips (λ r. n ≤ length r) (λ t. n - length R' ≤ length t) R' T (λ t e. omega (arith, length-append R' t)) hl)
        (all_strips Bits Bits R' T (bits_right R') hb) k')
      where
        o : Open 32 (idles F) j n P (Q ++ R)
        o = record { level_ok = hj; before = h_p; room = hw; early = hc; some_in = rw (← e_t) hT; long = rw (← e_t) hl; bits = rw (← e_t) hb }

        H : List ℕ
        H = heard n T

        R' : List ℕ
        R' = next H

        q : List ℕ × ℕ
        q = level lf (n - length R') (strips R' T)

        both : Bool → List ℕ × ℕ
        both c = cond c (R', 0) (R' ++ q.0, suc q.1)

        turn : (c : Bool) → clean H ≡ c → X ≡ Q ++ R ++ (both c).0
            → ((Q₁ R₁ : List ℕ) → Q₁ ++ R₁ ≡ X → goes f (selecting j P X) (w ++ marks (both c).0 T) (at (P ++ Q₁) (Ready (lvl j)) F) ≡ v)
            → Step n T R' c
            → (1 ≤ length R' → length R' ≤ n → length (Q ++ R ++ R') ≤ 32 → 1 ≤ length (strips R' T) → X ≡ Q ++ R ++ R' ++ q.0
            → ((Q₁ R₁ : List ℕ) → Q₁ ++ R₁ ≡ X → goes f (selecting j P X) (w ++ marks R' T ++ marks q.0 (strips R' T)) (at (P ++ Q₁) (Ready (lvl j)) F) ≡ v)
            → goes (suc q.1 + f) (opened j P (Q ++ R ++ R')) (w ++ marks R' T) (at (P ++ (Q ++ R)) (Ready (lvl j)) F) ≡ more (suc q.1) v)
            → goes (suc (both c).1 + f) (opened j P (Q ++ R)) w (at (P ++ Q) (Ready (lvl j)) F) ≡ more (suc (both c).1) v
        turn true c e k s ih = rw (one-add f, one-add v.1)
            (clean_law f F hF v j n P Q R w o hk (rw (← e_t) c) (rw (← e_t, ← e) (k (Q ++ R) R' (sym e))))
        turn false c e k s ih = rw (suc-add (suc q.1) f, suc-add (suc q.1) v.1)
            (clash_law (suc q.1 + f) F hF (more (suc q.1) v) j n P Q R w o hk (rw (← e_t) c)
            (rw (← e_t) (ih s.fit.0 s.fit.1 (rw (← e_t) at (law_early_32 (idles F) j n P (Q ++ R) (checked_idles F hF) o (rw (← e_t) c))) s.left (e ∙ sym (append_assoc (Q ++ R) R' q.0))
            (λ Q₁ R₁ e₁. rw (append_assoc w (marks R' T), ← marks_append R' q.0 T) (k Q₁ R₁ e₁)))))

  -- ---- from the level in which the branch ends

  -- one level with its SELECT: P are the levels before, K the bits of this one that are known; ih has the levels after it
  module _ (L : ℕ) (P K w : List ℕ) (j f : ℕ) (h_p : length P ≡ wide * j) (hj : suc L + j ≤ 3) (T : List (List ℕ)) (e_t : T ≡ strips P (idles F)) (hK : length K ≤ 32)
      (h : 1 ≤ length (strips K T)) (wh : All (InLevels (suc L)) T) (a : Apart T) (eb : bits w ≡ P ++ K) (v : Vw) where
    X : List ℕ
    X = whole K T

    T' : List (List ℕ)
    T' = strips X T

    w' : List ℕ
    w' = along w K T

    h_w : length K ≤ wide
    unfolding wide
    h_w = omega arith

    q : List ℕ × ℕ
    q = level (wide - length K) (wide - length K) (strips K T)

    full_level : length (whole K T) ≡ wide
    unfolding whole behind
    full_level = full L K T h h_w wh

    left_level : 1 ≤ length (strips (whole K T) T)
    unfolding whole behind
    left_level = left L K T h h_w wh

    rows_level : strips (whole K T) T ≡ strips (P ++ whole K T) (idles F)
    rows_level = ap (strips (whole K T)) e_t ∙ sym (strips_append P (whole K T) (idles F))

    e_k : strips K T ≡ strips (P ++ K) (idles F)
    e_k = ap (strips K) e_t ∙ sym (strips_append P K (idles F))

    -- the path has this level too
    path_level : bits (along w K T) ≡ P ++ whole K T
    unfolding along whole behind q
    path_level =
        let b : Bits (whole K T) = known_bits (idles F) P (whole K T) (whole_idles F hF) (rw (← rows_level) left_level) in
        let l : Level (wide - length K) (strips K T) q = level_holds (wide - length K) (wide - length K) (strips K T) (omega arith) h (long_open L K T h h_w wh) (bits_open L K T h h_w wh) in
        bits_append w (marks (behind K T) (strips K T)) ∙ rw (eb, bits_marks (behind K T) (strips K T) (bits_right K (behind K T) b) l.top) (append_assoc P K (behind K T))

    known : length w ≡ 40 * j + length K
    unfolding wide
    known = sym (length_bits w) ∙ rw (eb, length-append) (omega arith)

    -- the level, then SELECT
    both : (g : ℕ) (u : Vw) → ((Q₁ R₁ : List ℕ) → Q₁ ++ R₁ ≡ X → goes (suc g) (selecting j P X) w' (at (P ++ Q₁) (Ready (lvl j)) F) ≡ up u)
        → goes (suc q.1 + suc g) (opened j P K) w (at P (Ready (lvl j)) F) ≡ more (suc q.1) (up u)
    unfolding w' X q along whole behind
    both g u e =
        rw append-nil at
        (level_run P j h_p (omega arith) (suc g) (wide - length K) (wide - length K) [] K X w (strips K T) (up u) e_k refl
        (omega arith) (omega (arith, h_w)) hK known h (long_open L K T h h_w wh) (bits_open L K T h h_w wh) e)

    stage : ending f (P ++ (K ++ (from L K T).0)) (w ++ marks (from L K T).0 (strips K T)) ≡ v
        → (any is_nil (strips (whole K T) T) ≡ false → All (InLevels L) (strips (whole K T) T)
        → ending f (P ++ whole K T ++ (select L (strips (whole K T) T)).0) (along w K T ++ marks (select L (strips (whole K T) T)).0 (strips (whole K T) T)) ≡ v
        → goes ((select L (strips (whole K T) T)).1 + f) (entering (suc j) (P ++ whole K T) (along w K T)) (along w K T) (at (P ++ whole K T) (Ready (lvl (suc j))) F)
        ≡ more (select L (strips (whole K T) T)).1 v)
        → goes ((from L K T).1 + f) (opened j P K) w (at P (Ready (lvl j)) F) ≡ more (from L K T).1 v
    unfolding from w' T' X q along whole behind ending
    stage = turn (any is_nil T') refl
      where
        Y : List ℕ
        Y = (select L T').0

        c : ℕ
        c = (select L T').1

        s : Bool → List ℕ × ℕ
        s b = cond b (q.0, 2 + q.1) (q.0 ++ Y, 2 + q.1 + c)

        row : K ++ (q.0 ++ Y) ≡ X ++ Y
        row = sym (append_assoc K q.0 Y)

        turn : (b : Bool) → any is_nil T' ≡ b → ending f (P ++ (K ++ (s b).0)) (w ++ marks (s b).0 (strips K T)) ≡ v
            → (any is_nil T' ≡ false → All (InLevels L) T' → ending f (P ++ X ++ Y) (w' ++ marks Y T') ≡ v
            → goes (c + f) (entering (suc j) (P ++ X) w') w' (at (P ++ X) (Ready (lvl (suc j))) F) ≡ more c v)
            → goes ((s b).1 + f) (opened j P K) w (at P (Ready (lvl j)) F) ≡ more (s b).1 v
        turn true e k ih =
            let n₁ : 2 + q.1 + f ≡ suc q.1 + suc f = omega arith in
            let n₂ : 2 + q.1 + v.1 ≡ suc q.1 + suc v.1 = omega arith in
            rw (n₁, n₂) (both f v (λ Q₁ R₁ e₁. rw e₁ at (last_law f F hF v j P Q₁ R₁ w' (omega arith) h_p (rw e₁ (sym full_level)) (rw (e₁, ← rows_level) left_level)
            (rw (e₁, ← rows_level) (ended T' (apart_strips X T a) e)) (rw e₁ k))))
        turn false e k ih =
            let n₁ : 2 + q.1 + c + f ≡ suc q.1 + suc (c + f) = omega arith in
            let n₂ : 2 + q.1 + c + v.1 ≡ suc q.1 + suc (c + v.1) = omega arith in
            let wn : All (InLevels L) T' = whole_next L X T full_level wh e in
            let hL : 1 ≤ L = whole_some L T' left_level wn in
            let p : w ++ marks (q.0 ++ Y) (strips K T) ≡ w' ++ marks Y T' =
            ap (λ m. w ++ m) (marks_append q.0 Y (strips K T) ∙ ap (λ S. marks q.0 (strips K T) ++ marks Y S) (sym (strips_append K q.0 T)))
            ∙ sym (append_assoc w (marks q.0 (strips K T)) (marks Y T')) in
            rw (n₁, n₂) (both (c + f) (more c v) (λ Q₁ R₁ e₁. rw e₁ at (more_law (c + f) F hF (more c v) j P Q₁ R₁ w' (omega arith) h_p (rw e₁ (sym full_level)) (rw (e₁, ← rows_level) left_level)
            (omega arith) (rw (e₁, ← rows_level) (none_nil T' e)) (rw e₁ (ih e wn (rw append_assoc (rw (row, p) at k)))))))

  -- .. and those after it
  pub from_run : (L : ℕ) (P K w : List ℕ) (j f : ℕ) → length P ≡ wide * j → suc L + j ≤ 3 → (T : List (List ℕ)) → T ≡ strips P (idles F) → length K ≤ 32
      → 1 ≤ length (strips K T) → All (InLevels (suc L)) T → Apart T → bits w ≡ P ++ K → (v : Vw)
      → ending f (P ++ (K ++ (from L K T).0)) (w ++ marks (from L K T).0 (strips K T)) ≡ v
      → goes ((from L K T).1 + f) (opened j P K) w (at P (Ready (lvl j)) F) ≡ more (from L K T).1 v
  from_run zero P K w j f h_p hj T e_t hK h wh a eb v k = stage zero P K w j f h_p hj T e_t hK h wh a eb v k
      (λ e wn k'. absurd (omega (arith, whole_some 0 (strips (whole K T) T) (left_level zero P K w j f h_p hj T e_t hK h wh a eb v) wn)))
  from_run (suc L) P K w j f h_p hj T e_t hK h wh a eb v k = stage (suc L) P K w j f h_p hj T e_t hK h wh a eb v k
      (λ e wn k'. onward e wn k' (λ h' h_p' b'. from_run L (P ++ whole K T) [] (along w K T) (suc j) f h_p' (omega arith) (strips (whole K T) T)
      (rows_level (suc L) P K w j f h_p hj T e_t hK h wh a eb v) (omega arith) h' wn (apart_strips (whole K T) T a) b' v))
    where
      X : List ℕ
      X = whole K T

      T' : List (List ℕ)
      T' = strips X T

      w' : List ℕ
      w' = along w K T

      h_x : length X ≡ wide
      h_x = full_level (suc L) P K w j f h_p hj T e_t hK h wh a eb v

      eb' : bits w' ≡ P ++ X ++ []
      eb' = path_level (suc L) P K w j f h_p hj T e_t hK h wh a eb v ∙ sym (append-nil (P ++ X))

      h_p₁ : length (P ++ X) ≡ wide * suc j
      h_p₁ = rw (length-append, h_p, h_x) (omega arith)

      onward : any is_nil T' ≡ false → All (InLevels (suc L)) T' → ending f (P ++ X ++ (select (suc L) T').0) (w' ++ marks (select (suc L) T').0 T') ≡ v
          → (1 ≤ length (strips [] T') → length (P ++ X) ≡ wide * suc j → bits w' ≡ P ++ X ++ [] → ending f (P ++ X ++ (from L [] T').0) (w' ++ marks (from L [] T').0 (strips [] T')) ≡ v
          → goes ((from L [] T').1 + f) (opened (suc j) (P ++ X) []) w' (at (P ++ X) (Ready (lvl (suc j))) F) ≡ more (from L [] T').1 v)
          → goes ((select (suc L) T').1 + f) (entering (suc j) (P ++ X) w') w' (at (P ++ X) (Ready (lvl (suc j))) F) ≡ more (select (suc L) T').1 v
      onward e wn k' ih =
          let o : entering (suc j) (P ++ X) w' ≡ opened (suc j) (P ++ X) [] = enters_open (suc j) (P ++ X) w' (omega arith) (unfold wide in h_p₁) [] eb' (omega arith) in
          rw (select_from L T', o)
          (ih (rw strips_nil (left_level (suc L) P K w j f h_p hj T e_t hK h wh a eb v)) h_p₁ eb' (rw strips_nil (rw (select_from L T') at k')))
