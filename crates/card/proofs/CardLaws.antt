-- One card and one frame of a round: a card whose row begins with the bits that are known stays in and answers, the others fall back to
-- Idle, or to Halt if they were woken from there, and are silent. Assumes nothing.
use Rattle.std.specs.Prelude.{◌≡◌, Bool, cond, drop}
use Rattle.std.proofs.Math.Path.{refl, sym, ap, ap₂}
use Rattle.std.proofs.Common.{◌∙◌, take-append-drop, arith}
use Prim.Native.Nat.{ℕ, ◌+◌, ◌*◌, ◌≤◌, ◌<◌}
use Rattle.std.proofs.Math.Option.{Option, none, some}
use mathlib.Core.List.{List, [], ◌∷◌, ◌++◌, append_assoc}
use Rattle.std.proofs.Math.ListN.{length, take, length-append}
use Rattle.std.proofs.Math.Seq.{take-append-add, take_at}
use borrow.Author.Tests.{lt-ltb}
use Rattle.rows.specs.ListLaws.{same_eq}
use Rattle.rows.specs.Rows.{Bits}
use Rattle.frame.specs.ByteLaws.{bits_bytes_take, bytes_bits, bits_bytes_all, length_bytes}
use Rattle.frame.specs.Frame.{air_bits, bytes_of}
use Rattle.uid.specs.LevelLaws.{wide, lev_under}
use Rattle.uid.specs.StripLaws.{strip, and_then, not_none, strip_append, strip_sound}
use Rattle.uid.specs.Uid.{levels, row_of, place}
use Rattle.uid.specs.UidLaws.{Sound, length_row, lev_row, five_row}
use Rattle.selection.specs.SealLaws.{seal}
use Rattle.selection.specs.Selection.{cut, anticollision, others, select, sak_frame}
use Rattle.selection.specs.SelectionLaws.{length_anti, length_select, anti_same, rest_is}
use Rattle.card.specs.Card.{Step, up, bits_sent, home, ready_in, active_in, remain, sak, chosen, ready, rules, with_state}
use Rattle.card.proofs.ElseLaws.{five_at, home_else}
use Rattle.card.proofs.RulesLaws.{rules_ready}
use Rattle.card.proofs.StateLaws.{sak_more, sak_last}
use Rattle.card.proofs.WrongLaws.{anti_mismatch, select_mismatch, bits_sent_law}
use Rattle.uid.specs.declared.Level.{Level}
use Rattle.card.specs.declared.Card.{Card}
use Rattle.card.specs.declared.CardState.{CardState}
use Rattle.card.specs.declared.CardState.TheVariants.{Idle, Ready, Active, Halt, ReadyStar, ActiveStar, Off, Protocol}

-- the rules look at a card's state only where it is handed over
pub rules_state : (c : Card) (x y : CardState) (f : List ℕ) → rules (with_state c x) y f ≡ rules c y f
unfolding rules ready chosen sak remain levels
rules_state c x Off f = refl
rules_state c x Idle f = refl
rules_state c x (Ready l) f = refl
rules_state c x Active f = refl
rules_state c x Halt f = refl
rules_state c x (ReadyStar l) f = refl
rules_state c x ActiveStar f = refl
rules_state c x (Protocol i) f = refl

begins : (u K x : List ℕ) → take 40 u ≡ K ++ x → u ≡ K ++ (x ++ drop 40 u)
begins u K x e = sym (take-append-drop 40 u) ∙ ap (λ r. r ++ drop 40 u) e ∙ append_assoc K x (drop 40 u)

-- ---- a card in Ready at level l, woken or not, whose row begins with the levels P before it

module _ (c : Card) (s : Sound c.uid) (w : Bool) (l : Level) (P u : List ℕ) (h_p : length P ≡ wide * place l) (eu : strip P (row_of c.uid) ≡ some u) where
  sizes : 40 * length (levels c.uid) ≡ 40 * place l + length u
  unfolding wide
  sizes = sym (length_row c.uid s) ∙ ap length (strip_sound P (row_of c.uid) u eu) ∙ length-append P u ∙ ap (λ n. n + length u) h_p

  module _ (h : place l < length (levels c.uid)) where
    five_full : length (five_at c l) ≡ 5
    five_full = (five_row c.uid s (place l) h).full

    bits_are : air_bits (five_at c l) ≡ take 40 u
    unfolding wide
    bits_are = sym (lev_row c.uid s (place l) h) ∙ lev_under (place l) P (row_of c.uid) u h_p eu

  module _ (K : List ℕ) (n : ℕ) (b : Bits K) (hn : 40 ≡ length K + n) (h1 : 1 ≤ n) where
    f : List ℕ
    f = anticollision l (length K) (bytes_of 5 K)

    length_f : length f ≡ 18 + cut (length K)
    unfolding f
    length_f = length_anti l (length K) (bytes_of 5 K) (length_bytes 5 K) (omega arith)

    k_is : bits_sent f ≡ length K
    k_is = bits_sent_law f (length K) length_f

    -- its bits match
    anti_in : (t : List ℕ) → u ≡ K ++ t → n ≤ length t → rules c (ready_in w l) (anticollision l (length K) (bytes_of 5 K)) ≡ (ready_in w l, drop (cut (length K)) (seal 5 (K ++ take n t)))
    unfolding ready others f
    anti_in t e ht =
        let h : place l < length (levels c.uid) = omega (arith, sizes, ap length e, length-append K t) in
        let x : air_bits (five_at c l) ≡ K ++ take n t = bits_are h ∙ ap₂ take hn e ∙ take-append-add K t n in
        rw (rules_ready c w l f, lt-ltb (place l) (length (levels c.uid)) h, k_is, lt-ltb (length K) 40 (omega arith), same_eq f (anticollision l (length K) (five_at c l)) (anti_same l (five_at c l) K (five_full h) b (omega arith) (take n t) x))
        (ap (λ r. (ready_in w l, r)) (rest_is (five_at c l) K (take n t) (five_full h) x))

    -- they do not
    anti_out : strip K u ≡ none → rules c (ready_in w l) (anticollision l (length K) (bytes_of 5 K)) ≡ (home w, [])
    anti_out e = anti_mismatch c s w l (length K) (bytes_of 5 K) (length_bytes 5 K) (omega arith) (λ h e'.
        not_none K (drop (length K) (air_bits (five_at c l)) ++ drop 40 u) u e
        (begins u K (drop (length K) (air_bits (five_at c l))) (sym (bits_are h) ∙ sym (take-append-drop (length K) (air_bits (five_at c l))) ∙ ap (λ r. r ++ drop (length K) (air_bits (five_at c l))) (sym e' ∙ bits_bytes_take 5 K b (omega arith)))))

  module _ (X : List ℕ) (b : Bits X) (h_x : 40 ≡ length X) where
    g : List ℕ
    g = select l (bytes_of 5 X)

    length_g : length g ≡ 81
    unfolding g
    length_g = length_select l (bytes_of 5 X) (length_bytes 5 X)

    -- SELECT matches all 40 bits
    sel_in : (t : List ℕ) → u ≡ X ++ t → rules c (ready_in w l) (select l (bytes_of 5 X)) ≡ (chosen c w l, sak_frame (sak c l))
    unfolding ready g
    sel_in t e =
        let h : place l < length (levels c.uid) = omega (arith, sizes, ap length e, length-append X t) in
        let x : air_bits (five_at c l) ≡ X = bits_are h ∙ ap (take 40) e ∙ take_at X t 40 (sym h_x) in
        let y : bytes_of 5 X ≡ (five_at c l) = ap (bytes_of 5) (sym x) ∙ ap (λ n. bytes_of n (air_bits (five_at c l))) (sym (five_full h)) ∙ bytes_bits (five_at c l) (five_row c.uid s (place l) h).fits in
        rw (rules_ready c w l g, lt-ltb (place l) (length (levels c.uid)) h, length_g, same_eq g (select l (five_at c l)) (ap (select l) y))

    sel_out : strip X u ≡ none → rules c (ready_in w l) (select l (bytes_of 5 X)) ≡ (home w, [])
    sel_out e = select_mismatch c s w l (bytes_of 5 X) (length_bytes 5 X) (λ h e'.
        not_none X (drop 40 u) u e (sym (take-append-drop 40 u) ∙ ap (λ r. r ++ drop 40 u) (sym (bits_are h) ∙ sym e' ∙ bits_bytes_all 5 X b (omega arith))))

-- ---- the same for any card that was idle, or halted and is woken (w): o is what its row has left after the bits that are known

-- it is in state x if its row begins with what is known
unfoldable pub sit₁ : Bool → CardState → Option (List ℕ) → CardState
sit₁ w x (some t) = x
sit₁ w x none = home w

unfoldable pub said : Bool → Level → ℕ → List ℕ → Option (List ℕ) → Step
said w l n K (some t) = (ready_in w l, drop (cut (length K)) (seal 5 (K ++ take n t)))
said w l n K none = (home w, [])

-- after SELECT: b is whether the card speaks blocks
unfoldable pub saked : Bool → Level → Bool → Option (List ℕ) → Step
saked w l b (some []) = (active_in w, sak_frame (cond b 0x20 0x00))
saked w l b (some (x ∷ t)) = (ready_in w (up l), sak_frame 0x04)
saked w l b none = (home w, [])

module _ (c : Card) (s : Sound c.uid) (w : Bool) (l : Level) (P Q R : List ℕ) (h_p : length P ≡ wide * place l) (b : Bits (Q ++ R)) where
  K : List ℕ
  K = Q ++ R

  r : List ℕ
  r = row_of c.uid

  pub card_anti : (n : ℕ) → 40 ≡ length (Q ++ R) + n → 1 ≤ n → ((t : List ℕ) → strip (P ++ (Q ++ R)) (row_of c.uid) ≡ some t → n ≤ length t)
      → rules c (sit₁ w (ready_in w l) (strip (P ++ Q) (row_of c.uid))) (anticollision l (length (Q ++ R)) (bytes_of 5 (Q ++ R))) ≡ said w l n (Q ++ R) (strip (P ++ (Q ++ R)) (row_of c.uid))
  unfolding and_then sit₁ said r K
  card_anti n hn h1 long = rw (strip_append P Q r) (go (strip P r) refl (λ t e. long t (strip_append P K r ∙ e))) ∙ ap (said w l n K) (sym (strip_append P K r))
    where
      a : List ℕ
      a = anticollision l (length K) (bytes_of 5 K)

      silent : rules c (home w) a ≡ (home w, [])
      silent = home_else c w a (λ e. omega (arith, e, length_anti l (length K) (bytes_of 5 K) (length_bytes 5 K) (omega arith)))

      go₃ : (u : List ℕ) → strip P r ≡ some u → (o : Option (List ℕ)) → strip K u ≡ o → ((t : List ℕ) → o ≡ some t → n ≤ length t) → rules c (ready_in w l) a ≡ said w l n K o
      go₃ u e none d long = anti_out c s w l P u h_p e K n b hn h1 d
      go₃ u e (some t) d long = anti_in c s w l P u h_p e K n b hn h1 t (strip_sound K u t d) (long t refl)

      go₂ : (u : List ℕ) → strip P r ≡ some u → (o : Option (List ℕ)) → strip Q u ≡ o → ((t : List ℕ) → strip K u ≡ some t → n ≤ length t)
          → rules c (sit₁ w (ready_in w l) o) a ≡ said w l n K (strip K u)
      go₂ u e none d long = silent ∙ ap (said w l n K) (sym (strip_append Q R u ∙ ap (λ o. and_then o R) d))
      go₂ u e (some t) d long = go₃ u e (strip K u) refl long

      go : (o : Option (List ℕ)) → strip P r ≡ o → ((t : List ℕ) → and_then o K ≡ some t → n ≤ length t) → rules c (sit₁ w (ready_in w l) (and_then o Q)) a ≡ said w l n K (and_then o K)
      go none e long = silent
      go (some u) e long = go₂ u e (strip Q u) refl long

  pub card_sel : 40 ≡ length (Q ++ R) → rules c (sit₁ w (ready_in w l) (strip (P ++ Q) (row_of c.uid))) (select l (bytes_of 5 (Q ++ R))) ≡ saked w l c.blocks (strip (P ++ (Q ++ R)) (row_of c.uid))
  unfolding and_then sit₁ saked r K
  card_sel hn = rw (strip_append P Q r) (go (strip P r) refl) ∙ ap (saked w l c.blocks) (sym (strip_append P K r))
    where
      a : List ℕ
      a = select l (bytes_of 5 K)

      silent : rules c (home w) a ≡ (home w, [])
      silent = home_else c w a (λ e. omega (arith, e, length_select l (bytes_of 5 K) (length_bytes 5 K)))

      -- SAK says whether levels remain
      which : (u t : List ℕ) → strip P r ≡ some u → u ≡ K ++ t → (chosen c w l, sak_frame (sak c l)) ≡ saked w l c.blocks (some t)
      which u [] e d =
          let h : (sak c l ≡ cond c.blocks 0x20 0x00) × (chosen c w l ≡ active_in w) = sak_last c w l (omega (arith, sizes c s w l P u h_p e, ap length d, length-append K [])) in
          rw (h.0, h.1)
      which u (x ∷ t) e d =
          let h : (sak c l ≡ 0x04) × (chosen c w l ≡ ready_in w (up l)) = sak_more c w l (omega (arith, sizes c s w l P u h_p e, ap length d, length-append K (x ∷ t))) in
          rw (h.0, h.1)

      go₃ : (u : List ℕ) → strip P r ≡ some u → (o : Option (List ℕ)) → strip K u ≡ o → rules c (ready_in w l) a ≡ saked w l c.blocks o
      go₃ u e none d = sel_out c s w l P u h_p e K b hn d
      go₃ u e (some t) d = sel_in c s w l P u h_p e K b hn t (strip_sound K u t d) ∙ which u t e (strip_sound K u t d)

      go₂ : (u : List ℕ) → strip P r ≡ some u → (o : Option (List ℕ)) → strip Q u ≡ o → rules c (sit₁ w (ready_in w l) o) a ≡ saked w l c.blocks (strip K u)
      go₂ u e none d = silent ∙ ap (saked w l c.blocks) (sym (strip_append Q R u ∙ ap (λ o. and_then o R) d))
      go₂ u e (some t) d = go₃ u e (strip K u) refl

      go : (o : Option (List ℕ)) → strip P r ≡ o → rules c (sit₁ w (ready_in w l) (and_then o Q)) a ≡ saked w l c.blocks (and_then o K)
      go none e = silent
      go (some u) e = go₂ u e (strip Q u) refl
