-- The run of any machine whose frames obey the laws below is the sweep over the rows of its idle cards. A machine is a field with a
-- reader; proofs/Model.antt has the one of the core. Assumes nothing.
use mathlib.Core.Path.{◌≡◌, refl, sym, ap, ◌∙◌}
use Prim.Native.Nat.{ℕ, zero, suc, ◌+◌, ◌-◌, ◌*◌, ◌≤◌, ◌<◌}
use native.Mathlib.Nat.{not-suc-le-zero, suc-add, add-sub_of_le}
use native.Mathlib.Numerals.{one-add}
use mathlib.Core.Bool.{Bool, true, false, cond, true≢false}
use mathlib.Core.List.{List, [], ◌∷◌, ◌++◌, map, append-nil, append_assoc}
use lib.ListN.{length, length-append}
use native.Mathlib.Omega.{arith}
use Rattle.rows.specs.CleanLaws.{next_clean}
use Rattle.rows.specs.EachLaws.{bits_right, all_weaken}
use Rattle.rows.specs.Rows.{clean, next, any, All, is_nil, Bits}
use Rattle.uid.specs.LevelLaws.{wide, InLevels}
use Rattle.sweep_rules.proofs.Abstract.{strips, rest, heard, level, select, sweep, sort, frames, Apart}
use Rattle.sweep_rules.proofs.First.{strips_nil, strips_append}
use Rattle.sweep_rules.proofs.Level.{all_strips, Level}
use Rattle.sweep_rules.proofs.Select.{Selected, select_holds, apart_strips, ended, whole_wide, whole_next, level_whole}
use Rattle.sweep_rules.proofs.Sort.{all_rest, apart_rest, length_rest}
use Rattle.sweep_rules.proofs.Step.{Step, step, heard_zero}
use Rattle.sweep_rules.proofs.Sweep.{sweep_holds}

-- what was found, the number of frames, the cards at the end
abbrev pub View : Type 0 → Type 0 → Type 0
View Item End = List Item × ℕ × End

-- before an ANTICOLLISION of level j with the bits K, of which n bits stay open: P are the levels before, S the rows of the round
pub record Open (cap : ℕ) (S : List (List ℕ)) (j n : ℕ) (P K : List ℕ) : Type 0 where
  pub level_ok : j < 3
  pub before : length P ≡ wide * j
  pub room : wide ≡ length K + n
  pub early : length K ≤ cap
  pub some_in : 1 ≤ length (strips (P ++ K) S)
  pub long : All (λ t. n ≤ length t) (strips (P ++ K) S)
  pub bits : All Bits (strips (P ++ K) S)

pub record Machine : Type 1 where
  -- a field at rest, between two rounds; what is known of it; the rows of its idle cards
  pub Base : Type 0
  pub Good : Base → Type 0
  pub idles : Base → List (List ℕ)
  -- the same after a round that found the row P
  pub shut : List ℕ → Base → Base
  pub good_shut : (P : List ℕ) (B : Base) → Good B → Good (shut P B)
  pub idles_shut : (P : List ℕ) (B : Base) → Good B → idles (shut P B) ≡ rest P (idles B)
  -- what is left when all are found
  pub End : Type 0
  pub final : Base → End
  pub final_shut : (P : List ℕ) (B : Base) → final (shut P B) ≡ final B
  -- what is noted of a row
  pub Item : Type 0
  pub name : List ℕ → Item
  -- field, reader and the frame that is sent next; and a run of it, by fuel
  pub St : Type 0
  pub go : ℕ → St → View Item End
  -- REQA comes next
  pub asking : Base → St
  -- ANTICOLLISION of level j with the bits Q ++ R comes next: P are the levels before, the cards that begin with P ++ Q are in
  pub opened : Base → (j : ℕ) (P Q R : List ℕ) → St
  -- SELECT of level j with the bits X comes next: the cards that begin with P ++ Q are in
  pub chosen : Base → (j : ℕ) (P Q X : List ℕ) → St
  -- HLTA comes next: P is the row of the one card that is active
  pub closing : Base → List ℕ → St
  -- no more bits of a level are sent before its SELECT (32 where its last byte is a check byte)
  pub cap : ℕ
  pub law_early : (B : Base) (j n : ℕ) (P Q R : List ℕ) → Good B → Open cap (idles B) j n P (Q ++ R) → clean (heard n (strips (P ++ (Q ++ R)) (idles B))) ≡ false
      → length (Q ++ R ++ next (heard n (strips (P ++ (Q ++ R)) (idles B)))) ≤ cap
  pub law_stop : (f : ℕ) (B : Base) → Good B → idles B ≡ [] → go (suc f) (asking B) ≡ ([], 1, final B)
  pub law_req : (f : ℕ) (B : Base) (v : View Item End) → Good B → 1 ≤ length (idles B) → go f (opened B 0 [] [] []) ≡ v
      → go (suc f) (asking B) ≡ (v.0, suc v.1, v.2)
  pub law_clean : (f : ℕ) (B : Base) (j n : ℕ) (P Q R : List ℕ) (v : View Item End) → Good B → Open cap (idles B) j n P (Q ++ R) → clean (heard n (strips (P ++ (Q ++ R)) (idles B))) ≡ true
      → go f (chosen B j P (Q ++ R) (Q ++ R ++ heard n (strips (P ++ (Q ++ R)) (idles B)))) ≡ v → go (suc f) (opened B j P Q R) ≡ (v.0, suc v.1, v.2)
  pub law_clash : (f : ℕ) (B : Base) (j n : ℕ) (P Q R : List ℕ) (v : View Item End) → Good B → Open cap (idles B) j n P (Q ++ R) → clean (heard n (strips (P ++ (Q ++ R)) (idles B))) ≡ false
      → go f (opened B j P (Q ++ R) (next (heard n (strips (P ++ (Q ++ R)) (idles B))))) ≡ v → go (suc f) (opened B j P Q R) ≡ (v.0, suc v.1, v.2)
  pub law_more : (f : ℕ) (B : Base) (j : ℕ) (P Q R : List ℕ) (v : View Item End) → Good B → suc j < 3 → length P ≡ wide * j → wide ≡ length (Q ++ R)
      → 1 ≤ length (strips (P ++ (Q ++ R)) (idles B)) → All (λ t. is_nil t ≡ false) (strips (P ++ (Q ++ R)) (idles B))
      → go f (opened B (suc j) (P ++ (Q ++ R)) [] []) ≡ v → go (suc f) (chosen B j P Q (Q ++ R)) ≡ (v.0, suc v.1, v.2)
  pub law_last : (f : ℕ) (B : Base) (j : ℕ) (P Q R : List ℕ) (v : View Item End) → Good B → j < 3 → length P ≡ wide * j → wide ≡ length (Q ++ R)
      → strips (P ++ (Q ++ R)) (idles B) ≡ [] ∷ []
      → go f (closing B (P ++ (Q ++ R))) ≡ v → go (suc f) (chosen B j P Q (Q ++ R)) ≡ (v.0, suc v.1, v.2)
  pub law_hlt : (f : ℕ) (B : Base) (P : List ℕ) (v : View Item End) → Good B → strips P (idles B) ≡ [] ∷ []
      → go f (asking (shut P B)) ≡ v → go (suc f) (closing B P) ≡ (name P ∷ v.0, suc v.1, v.2)

pub none_nil : (T : List (List ℕ)) → any is_nil T ≡ false → All (λ t. is_nil t ≡ false) T
unfolding any is_nil
none_nil [] e = tt
none_nil ([] ∷ T) e = absurd (true≢false e)
none_nil ((x ∷ t) ∷ T) e = (refl, none_nil T e)

pub whole_some : (L : ℕ) (T : List (List ℕ)) → 1 ≤ length T → All (InLevels L) T → 1 ≤ L
whole_some zero [] h w = absurd (not-suc-le-zero h)
whole_some zero (r ∷ T) h w = absurd (omega (arith, w.0.one_level, w.0.at_most))
whole_some (suc L) T h w = omega arith

module _ (M : Machine) where
  open M use {Base, Good, idles, shut, good_shut, idles_shut, End, final, final_shut, Item, name, St, go, asking, opened, chosen, closing, cap}

  abbrev Vw : Type 0
  Vw = View Item End

  -- k frames that find nothing
  abbrev more : ℕ → Vw → Vw
  more k v = (v.0, k + v.1, v.2)

  module _ (B : Base) (hB : Good B) where
    is_open_law : (P : List ℕ) (j n : ℕ) (K : List ℕ) (T : List (List ℕ)) → T ≡ strips (P ++ K) (idles B) → length P ≡ wide * j → j < 3 → wide ≡ length K + n → length K ≤ cap
        → 1 ≤ length T → All (λ t. n ≤ length t) T → All Bits T → Open cap (idles B) j n P K
    is_open_law P j n K T e_t h_p hj hw hc hT hl hb =
        record { level_ok = hj; before = h_p; room = hw; early = hc; some_in = rw (← e_t) hT; long = rw (← e_t) hl; bits = rw (← e_t) hb }

    -- the last answer of a level
    level_last : (P : List ℕ) (j f n : ℕ) (Q R X : List ℕ) (T : List (List ℕ)) (v : Vw)
        → T ≡ strips (P ++ (Q ++ R)) (idles B) → X ≡ Q ++ R ++ heard n T → clean (heard n T) ≡ true → Open cap (idles B) j n P (Q ++ R)
        → ((Q₁ R₁ : List ℕ) → Q₁ ++ R₁ ≡ X → go f (chosen B j P Q₁ X) ≡ v) → go (1 + f) (opened B j P Q R) ≡ more 1 v
    level_last P j f n Q R X T v e_t eX c o k = rw (one-add f, one-add v.1)
        (M.law_clean f B j n P Q R v hB o (rw (← e_t) c) (rw (← e_t, ← eX) (k (Q ++ R) (heard n T) (sym eX))))

    -- a level, up to its SELECT: X are all bits of the level
    level_run : (P : List ℕ) (j : ℕ) → length P ≡ wide * j → j < 3 → (f lf n : ℕ) (Q R X : List ℕ) (T : List (List ℕ)) (v : Vw)
        → T ≡ strips (P ++ (Q ++ R)) (idles B) → X ≡ Q ++ R ++ (level lf n T).0
        → n ≤ lf → wide ≡ length (Q ++ R) + n → length (Q ++ R) ≤ cap → 1 ≤ length T → All (λ r. n ≤ length r) T → All Bits T
        → ((Q₁ R₁ : List ℕ) → Q₁ ++ R₁ ≡ X → go f (chosen B j P Q₁ X) ≡ v) → go (suc (level lf n T).1 + f) (opened B j P Q R) ≡ more (suc (level lf n T).1) v
    unfolding level
    level_run P j h_p hj f zero n Q R X T v e_t eX hn hw hc hT hl hb k =
        let z : n ≡ 0 = omega arith in
        level_last P j f n Q R X T v e_t (rw (z, heard_zero) eX) (rw (z, heard_zero) (unfold clean in refl)) (is_open_law P j n (Q ++ R) T e_t h_p hj hw hc hT hl hb) k
    level_run P j h_p hj f (suc lf) n Q R X T v e_t eX hn hw hc hT hl hb k = turn (clean h) refl eX (step n T hT hl hb)
        (λ h₁ h₂ hc' hT' eX'. level_run P j h_p hj f lf (n - length R') (Q ++ R) R' X (strips R' T) v
        (ap (strips R') e_t ∙ sym (strips_append (P ++ (Q ++ R)) R' (idles B)) ∙ ap (λ l. strips l (idles B)) (append_assoc P (Q ++ R) R'))
        eX' (omega arith) (rw length-append (omega arith)) hc' hT'
        (all_strips (λ r. n ≤ length r) (λ t. n - length R' ≤ length t) R' T (λ t e. omega (arith, length-append R' t)) hl)
        (all_strips Bits Bits R' T (bits_right R') hb) k)
      where
        o : Open cap (idles B) j n P (Q ++ R)
        o = is_open_law P j n (Q ++ R) T e_t h_p hj hw hc hT hl hb

        h : List ℕ
        h = heard n T

        R' : List ℕ
        R' = next h

        q : List ℕ × ℕ
        q = level lf (n - length R') (strips R' T)

        turn : (c : Bool) → clean h ≡ c → X ≡ Q ++ R ++ (cond {A = List ℕ × ℕ} c (R', 0) (R' ++ q.0, suc q.1)).0 → Step n T R' c
            → (1 ≤ length R' → length R' ≤ n → length (Q ++ R ++ R') ≤ cap → 1 ≤ length (strips R' T) → X ≡ Q ++ R ++ R' ++ q.0 → go (suc q.1 + f) (opened B j P (Q ++ R) R') ≡ more (suc q.1) v)
            → go (suc (cond {A = List ℕ × ℕ} c (R', 0) (R' ++ q.0, suc q.1)).1 + f) (opened B j P Q R)
            ≡ more (suc (cond {A = List ℕ × ℕ} c (R', 0) (R' ++ q.0, suc q.1)).1) v
        turn true c e s ih = level_last P j f n Q R X T v e_t (e ∙ ap (λ l. Q ++ R ++ l) (next_clean h c)) c o k
        turn false c e s ih = rw (suc-add (suc q.1) f, suc-add (suc q.1) v.1)
            (M.law_clash (suc q.1 + f) B j n P Q R (more (suc q.1) v) hB o (rw (← e_t) c)
            (rw (← e_t) (ih s.fit.0 s.fit.1 (rw (← e_t) at (M.law_early B j n P Q R hB o (rw (← e_t) c))) s.left (e ∙ sym (append_assoc (Q ++ R) R' q.0)))))

    select_run : (L : ℕ) (P : List ℕ) (j f : ℕ) → length P ≡ wide * j → L + j ≤ 3 → (T : List (List ℕ)) → T ≡ strips P (idles B) → 1 ≤ length T → All (InLevels L) T → Apart T
        → (v : Vw) → go f (closing B (P ++ (select L T).0)) ≡ v → go ((select L T).1 + f) (opened B j P [] []) ≡ more (select L T).1 v
    unfolding select
    select_run zero P j f h_p hj T e_t h w a v k = absurd (omega (arith, whole_some 0 T h w))
    select_run (suc L) P j f h_p hj T e_t h w a v k = turn (any is_nil T') refl k
        (λ e. select_run L (P ++ q.0) (suc j) f (rw (length-append, h_p, l.full) (omega arith)) (omega arith) T' e_t' l.left (whole_next L q.0 T l.full w e) (apart_strips q.0 T a) v)
      where
        q : List ℕ × ℕ
        q = level wide wide T

        T' : List (List ℕ)
        T' = strips q.0 T

        l : Level wide T q
        l = level_whole (suc L) T h w

        e_t' : T' ≡ strips (P ++ q.0) (idles B)
        e_t' = ap (strips q.0) e_t ∙ sym (strips_append P q.0 (idles B))

        -- the level, then SELECT
        both : (g : ℕ) (u : Vw) → ((Q₁ R₁ : List ℕ) → Q₁ ++ R₁ ≡ q.0 → go (suc g) (chosen B j P Q₁ q.0) ≡ (u.0, suc u.1, u.2))
            → go (suc q.1 + suc g) (opened B j P [] []) ≡ (u.0, suc q.1 + suc u.1, u.2)
        both g u e =
            level_run P j h_p (omega arith) (suc g) wide wide [] [] q.0 T (u.0, suc u.1, u.2) (e_t ∙ ap (λ W. strips W (idles B)) (sym (append-nil P))) refl
            (omega arith) (omega arith) (omega arith) h (all_weaken T (whole_wide (suc L)) w) (all_weaken T (λ r x. x.bits) w) e

        turn : (b : Bool) → any is_nil T' ≡ b
            → go f (closing B (P ++ (cond {A = List ℕ × ℕ} b (q.0, 2 + q.1) (q.0 ++ (select L T').0, 2 + q.1 + (select L T').1)).0)) ≡ v
            → (any is_nil T' ≡ false → go f (closing B (P ++ q.0 ++ (select L T').0)) ≡ v
            → go ((select L T').1 + f) (opened B (suc j) (P ++ q.0) [] []) ≡ more (select L T').1 v)
            → go ((cond {A = List ℕ × ℕ} b (q.0, 2 + q.1) (q.0 ++ (select L T').0, 2 + q.1 + (select L T').1)).1 + f) (opened B j P [] [])
            ≡ more (cond {A = List ℕ × ℕ} b (q.0, 2 + q.1) (q.0 ++ (select L T').0, 2 + q.1 + (select L T').1)).1 v
        turn true e k ih =
            let n₁ : 2 + q.1 + f ≡ suc q.1 + suc f = omega arith in
            let n₂ : 2 + q.1 + v.1 ≡ suc q.1 + suc v.1 = omega arith in
            rw (n₁, n₂) (both f v (λ Q₁ R₁ e₁. rw e₁ at (M.law_last f B j P Q₁ R₁ v hB (omega arith) h_p (rw e₁ (sym l.full))
            (rw (e₁, ← e_t') (ended T' (apart_strips q.0 T a) e)) (rw e₁ k))))
        turn false e k ih =
            let n₁ : 2 + q.1 + (select L T').1 + f ≡ suc q.1 + suc ((select L T').1 + f) = omega arith in
            let n₂ : 2 + q.1 + (select L T').1 + v.1 ≡ suc q.1 + suc ((select L T').1 + v.1) = omega arith in
            let hL : 1 ≤ L = whole_some L T' l.left (whole_next L q.0 T l.full w e) in
            rw (n₁, n₂) (both ((select L T').1 + f) (more (select L T').1 v) (λ Q₁ R₁ e₁. rw e₁ at (M.law_more ((select L T').1 + f) B j P Q₁ R₁ (more (select L T').1 v)
            hB (omega arith) h_p (rw e₁ (sym l.full)) (rw (e₁, ← e_t') l.left) (rw (e₁, ← e_t') (none_nil T' e)) (rw e₁ (ih e (rw append_assoc k))))))

  -- a round in which a card is found, and then the others
  round_run : (f : ℕ) (B : Base) (T : List (List ℕ)) → Good B → idles B ≡ T → 1 ≤ length T → All (InLevels 3) T → Apart T → (w : List (List ℕ) × ℕ)
      → go (w.1 + f) (asking (shut (select 3 T).0 B)) ≡ (map name w.0, w.1, final (shut (select 3 T).0 B))
      → go (2 + (select 3 T).1 + w.1 + f) (asking B) ≡ (name (select 3 T).0 ∷ map name w.0, 2 + (select 3 T).1 + w.1, final B)
  round_run f B T hB e h wh a w k =
      let s : List ℕ × ℕ = select 3 T in
      let n₁ : 2 + s.1 + w.1 + f ≡ suc (s.1 + suc (w.1 + f)) = omega arith in
      let n₂ : 2 + s.1 + w.1 ≡ suc (s.1 + suc w.1) = omega arith in
      rw (n₁, n₂)
      (M.law_req (s.1 + suc (w.1 + f)) B (name s.0 ∷ map name w.0, s.1 + suc w.1, final B) hB (rw e h)
      (select_run B hB 3 [] 0 (suc (w.1 + f)) (omega arith) (omega arith) T (sym e ∙ sym (strips_nil (idles B))) h wh a (name s.0 ∷ map name w.0, suc w.1, final B)
      (M.law_hlt (w.1 + f) B s.0 (map name w.0, w.1, final B) hB (rw e (select_holds 3 T h wh a).only)
      (k ∙ ap (λ G. (map name w.0, w.1, G)) (final_shut s.0 B)))))

  pub machine_sweep : (n f : ℕ) (B : Base) (S : List (List ℕ)) → Good B → idles B ≡ S → length S ≤ n → All (InLevels 3) S → Apart S
      → go ((sweep n S).1 + f) (asking B) ≡ (map name (sweep n S).0, (sweep n S).1, final B)
  unfolding sweep
  machine_sweep zero f B [] hB e h w a = rw one-add (M.law_stop f B hB e)
  machine_sweep zero f B (r ∷ S) hB e h w a = absurd (not-suc-le-zero h)
  machine_sweep (suc n) f B [] hB e h w a = rw one-add (M.law_stop f B hB e)
  machine_sweep (suc n) f B (r ∷ S) hB e h w a =
      let T : List (List ℕ) = r ∷ S in
      let P : List ℕ = (select 3 T).0 in
      let s : Selected T (select 3 T) = select_holds 3 T (omega arith) w a in
      round_run f B T hB e (omega arith) w a (sweep n (rest P T))
      (machine_sweep n f (shut P B) (rest P T) (good_shut P B hB) (idles_shut P B hB ∙ ap (rest P) e)
      (omega (arith, length_rest P T, ap length s.only)) (all_rest (InLevels 3) P T w) (apart_rest P T a))

  -- any fuel that is enough
  pub machine_swept : (g : ℕ) (B : Base) → Good B → All (InLevels 3) (idles B) → Apart (idles B) → frames (sort (idles B)) ≤ g
      → go g (asking B) ≡ (map name (sort (idles B)), frames (sort (idles B)), final B)
  machine_swept g B hB w a h =
      let S : List (List ℕ) = idles B in
      let n : ℕ = length S in
      let f : ℕ = g - frames (sort S) in
      rw (add-sub_of_le h) at (rw (sweep_holds n S (omega arith) w a) at (machine_sweep n f B S hB refl (omega arith) w a))
