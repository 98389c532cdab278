-- The levels that the reader already has: SELECT for each, straight. F is the field at the round's start. Assumes nothing.
use mathlib.Core.Path.{◌≡◌, refl, sym, ap, ◌∙◌}
use Prim.Native.Nat.{ℕ, zero, suc, ◌+◌, ◌*◌, ◌≤◌}
use native.Mathlib.Nat.{not-suc-le-zero, suc-add}
use mathlib.Core.Bool.{Bool, true, false}
use mathlib.Core.List.{List, [], ◌∷◌, ◌++◌, append-nil, append_assoc}
use lib.ListN.{length, take, drop, length-append, length-take, length-drop, take-append-drop}
use native.Mathlib.Omega.{arith}
use Rattle.rows.specs.Rows.{any, All, is_nil}
use Rattle.uid.specs.LevelLaws.{wide, InLevels}
use Rattle.uid.specs.Order.{diff}
use Rattle.uid.specs.Uid.{air}
use Rattle.reader.specs.ReaderLaws.{lvl}
use Rattle.memory.specs.Memory.{bits}
use Rattle.memory.proofs.MemoryLaws.{entering, enters_open, enters_known}
use Rattle.sweep_rules.proofs.Abstract.{keep, strips, Apart}
use Rattle.sweep_rules.proofs.First.{strips_nil, strips_append}
use Rattle.sweep_rules.proofs.Idle.{idles, Fits}
use Rattle.sweep_rules.proofs.Machine.{none_nil}
use Rattle.sweep_rules.proofs.Model.{Vw}
use Rattle.sweep_rules.proofs.Select.{apart_strips, ended, whole_next}
use Rattle.sweep_rules.proofs.Sitting.{at}
use Rattle.memory_rules.proofs.Frames.{goes, more, more_law}
use Rattle.memory_rules.proofs.From.{from, full, left}
use Rattle.memory_rules.proofs.Marks.{marks}
use Rattle.card.specs.declared.Card.{Card}
use Rattle.card.specs.declared.CardState.TheVariants.{Ready}
use Rattle.memory_rules.proofs.Stages.{ending, from_run}

-- the first j levels of a row, and what is behind them
unfoldable pub firsts : ℕ → List ℕ → List (List ℕ)
firsts zero B = []
firsts (suc j) B = take wide B ∷ firsts j (drop wide B)

unfoldable pub others : ℕ → List ℕ → List ℕ
others zero B = B
others (suc j) B = others j (drop wide B)

pub firsts_others : (j : ℕ) (B : List ℕ) → air (firsts j B) ++ others j B ≡ B
unfolding firsts others air
firsts_others zero B = refl
firsts_others (suc j) B = append_assoc (take wide B) (air (firsts j (drop wide B))) (others j (drop wide B)) ∙ ap (λ l. take wide B ++ l) (firsts_others j (drop wide B)) ∙ take-append-drop wide B

pub length_firsts : (j : ℕ) (B : List ℕ) → length (firsts j B) ≡ j
unfolding firsts
length_firsts zero B = refl
length_firsts (suc j) B = ap suc (length_firsts j (drop wide B))

pub full_firsts : (j : ℕ) (B : List ℕ) → wide * j ≤ length B → All (λ X. length X ≡ wide) (firsts j B)
unfolding firsts
full_firsts zero B h = tt
full_firsts (suc j) B h = (rw length-take (omega arith), full_firsts j (drop wide B) (rw length-drop (omega arith)))

pub length_others : (j : ℕ) (B : List ℕ) → wide * j ≤ length B → length B ≡ wide * j + length (others j B)
unfolding others
length_others zero B h = omega arith
length_others (suc j) B h = omega (arith, length_others j (drop wide B) (rw length-drop (omega arith)), length-drop wide B)

pub some_before : (Z : List ℕ) (T : List (List ℕ)) → 1 ≤ length (strips Z T) → 1 ≤ length T
unfolding strips
some_before Z [] h = h
some_before Z (r ∷ T) h = omega arith

-- where a row goes on, none ends
goes_on_law : (Z : List ℕ) (T : List (List ℕ)) → Apart T → 1 ≤ length Z → 1 ≤ length (strips Z T) → any is_nil T ≡ false
goes_on_law [] T a hZ h = absurd (not-suc-le-zero hZ)
goes_on_law (z ∷ Z) T a hZ h = go (any is_nil T) refl
  where
    ends : strips (z ∷ Z) ([] ∷ []) ≡ []
    ends = unfold strips keep diff in refl

    go : (b : Bool) → any is_nil T ≡ b → b ≡ false
    go true e = absurd (not-suc-le-zero (rw (ap (strips (z ∷ Z)) (ended T a e) ∙ ends) at h))
    go false e = refl

-- the rows T begin with the whole levels Ms and then K
pub record Ahead (Ms : List (List ℕ)) (K : List ℕ) (L : ℕ) (T : List (List ℕ)) : Type 0 where
  pub full : All (λ X. length X ≡ wide) Ms
  pub inside : 1 ≤ length Ms → 1 ≤ length K
  pub left : 1 ≤ length (strips (air Ms ++ K) T)
  pub whole : All (InLevels (length Ms + suc L)) T
  pub apart : Apart T

module _ (X : List ℕ) (Ms : List (List ℕ)) (K : List ℕ) (L : ℕ) (T : List (List ℕ)) (g : Ahead (X ∷ Ms) K L T) where
  next_left : 1 ≤ length (strips (air Ms ++ K) (strips X T))
  next_left = rw (← strips_append) (rw (← append_assoc) (unfold air in g.left))

  next_open : any is_nil (strips X T) ≡ false
  next_open = goes_on_law (air Ms ++ K) (strips X T) (apart_strips X T g.apart) (rw length-append (omega (arith, g.inside (omega arith)))) next_left

  pub next_ahead : Ahead Ms K L (strips X T)
  next_ahead = record {
    full = g.full.1;
    inside = λ h. g.inside (omega arith);
    left = next_left;
    whole = whole_next (length Ms + suc L) X T g.full.0 (rw (suc-add (length Ms) (suc L)) at g.whole) next_open;
    apart = apart_strips X T g.apart;
  }

module _ (F : List Card) (hF : All Fits F) where
  pub straight_run : (Ms : List (List ℕ)) (L : ℕ) (P K w : List ℕ) (j f : ℕ) (T : List (List ℕ)) → length P ≡ wide * j → suc L + (length Ms + j) ≤ 3 → T ≡ strips P (idles F)
      → length K ≤ 32 → Ahead Ms K L T → bits w ≡ P ++ (air Ms ++ K) → (v : Vw)
      → ending F hF f (P ++ (air Ms ++ (K ++ (from L K (strips (air Ms) T)).0))) (w ++ marks (from L K (strips (air Ms) T)).0 (strips K (strips (air Ms) T))) ≡ v
      → goes (length Ms + ((from L K (strips (air Ms) T)).1 + f)) (entering j P w) w (at P (Ready (lvl j)) F) ≡ more (length Ms + (from L K (strips (air Ms) T)).1) v
  unfolding air
  straight_run [] L P K w j f T h_p hj e_t hK g eb v k =
      let c : ℕ = (from L K T).1 in
      let n₁ : 0 + (c + f) ≡ c + f = omega arith in
      let n₂ : 0 + c + v.1 ≡ c + v.1 = omega arith in
      rw (strips_nil T, n₁, n₂, enters_open j P w (omega arith) (unfold wide in h_p) K eb (omega arith))
      (from_run F hF L P K w j f h_p (omega arith) T e_t hK (unfold air in g.left) (unfold air in rw n₀ at g.whole) g.apart eb v (rw (strips_nil T) at k))
    where
      n₀ : 0 + suc L ≡ suc L
      n₀ = omega arith
  straight_run (X ∷ Ms) L P K w j f T h_p hj e_t hK g eb v k =
      go (straight_run Ms L (P ++ X) K w (suc j) f (strips X T) h_p₁ (omega arith) e_t₁ hK (next_ahead X Ms K L T g) (eb ∙ ap (λ l. P ++ l) (append_assoc X (air Ms) K) ∙ sym (append_assoc P X (air Ms ++ K))) v)
    where
      h_x : length X ≡ wide
      h_x = g.full.0

      h_p₁ : length (P ++ X) ≡ wide * suc j
      h_p₁ = rw (length-append, h_p, h_x) (omega arith)

      e_t₁ : strips X T ≡ strips (P ++ X) (idles F)
      e_t₁ = ap (strips X) e_t ∙ sym (strips_append P X (idles F))

      T₁ : List (List ℕ)
      T₁ = strips (air Ms) (strips X T)

      c : ℕ
      c = (from L K T₁).1

      Y : List ℕ
      Y = (from L K T₁).0

      go : (ending F hF f (P ++ X ++ (air Ms ++ (K ++ Y))) (w ++ marks Y (strips K T₁)) ≡ v
          → goes (length Ms + (c + f)) (entering (suc j) (P ++ X) w) w (at (P ++ X) (Ready (lvl (suc j))) F) ≡ more (length Ms + c) v)
          → goes (suc (length Ms) + ((from L K (strips (X ++ air Ms) T)).1 + f)) (entering j P w) w (at P (Ready (lvl j)) F) ≡ more (suc (length Ms) + (from L K (strips (X ++ air Ms) T)).1) v
      go ih =
          let e : strips (X ++ air Ms) T ≡ T₁ = strips_append X (air Ms) T in
          let n₂ : suc (length Ms) + c + v.1 ≡ suc (length Ms + c + v.1) = omega arith in
          let row : P ++ (X ++ air Ms ++ (K ++ Y)) ≡ P ++ X ++ (air Ms ++ (K ++ Y)) = ap (λ l. P ++ l) (append_assoc X (air Ms) (K ++ Y)) ∙ sym (append_assoc P X (air Ms ++ (K ++ Y))) in
          rw (e, suc-add (length Ms) (c + f), n₂, enters_known j P w (omega arith) (unfold wide in h_p) X (air Ms ++ K) (eb ∙ ap (λ l. P ++ l) (append_assoc X (air Ms) K)) (unfold wide in h_x))
          (rw append-nil at (more_law (length Ms + (c + f)) F hF (more (length Ms + c) v) j P [] X w (omega arith) h_p (sym h_x)
          (rw (← e_t₁) (some_before (air Ms ++ K) (strips X T) (next_left X Ms K L T g))) (omega arith) (rw (← e_t₁) (none_nil (strips X T) (next_open X Ms K L T g)))
          (ih (rw (e, row) at k))))
