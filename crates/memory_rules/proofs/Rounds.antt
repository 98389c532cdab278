-- A round of the sweep that remembers, from REQA to HLTA. F is the field at the round's start. Assumes nothing.
use mathlib.Core.Path.{◌≡◌, sym, ap, ◌∙◌}
use Prim.Native.Nat.{ℕ, suc, ◌+◌, ◌-◌, ◌*◌, ◌/◌, ◌%◌, ◌≤◌, ◌<◌}
use mathlib.Core.List.{List, [], ◌∷◌, ◌++◌, append-nil, append_assoc}
use lib.ListN.{length}
use native.Mathlib.Omega.{arith}
use Rattle.rows.specs.Rows.{All}
use Rattle.uid.specs.LevelLaws.{wide, InLevels}
use Rattle.uid.specs.Order.{parts}
use Rattle.uid.specs.Uid.{air}
use Rattle.uid.specs.UidLaws.{name}
use Rattle.reader.specs.ReaderLaws.{asking}
use Rattle.memory.specs.Memory.{bits, branch}
use Rattle.sweep_rules.proofs.Abstract.{strips, Top, levels, Apart}
use Rattle.sweep_rules.proofs.First.{strips_nil, strips_append}
use Rattle.sweep_rules.proofs.Idle.{idles, Fits}
use Rattle.sweep_rules.proofs.IdleRows.{whole_idles}
use Rattle.sweep_rules.proofs.Level.{all_strips, top_append}
use Rattle.sweep_rules.proofs.Model.{Vw}
use Rattle.sweep_rules.proofs.Select.{apart_strips, levels_append}
use Rattle.sweep_rules.proofs.Sitting.{at}
use Rattle.memory_rules.proofs.Frames.{goes, more, req, hlt_law}
use Rattle.memory_rules.proofs.From.{from, From, from_holds, full, left}
use Rattle.memory_rules.proofs.Marks.{marks, marks_append}
use Rattle.card.specs.declared.Card.{Card}
use Rattle.card.specs.declared.CardState.TheVariants.{Halt}
use Rattle.memory_rules.proofs.Stages.{ending}
use Rattle.memory_rules.proofs.Straight.{firsts, others, firsts_others, length_firsts, full_firsts, length_others, some_before, Ahead, next_ahead, straight_run}

-- the path b that a round starts with, over the rows S
pub record Start (b : List ℕ) (S : List (List ℕ)) : Type 0 where
  pub marked : b ≡ marks (bits b) S
  pub top : Top (bits b) S
  pub left : 1 ≤ length (strips (bits b) S)
  pub fits : length (bits b) / wide < 3
  pub early : length (bits b) % wide ≤ 32
  pub inside : 1 ≤ length (bits b) / wide → 1 ≤ length (bits b) % wide

-- the bits behind B of the row that is found, and the number of frames from the level on in which B ends
unfoldable pub beyond : List ℕ → List (List ℕ) → List ℕ × ℕ
beyond B S = from (2 - length B / wide) (others (length B / wide) B) (strips (air (firsts (length B / wide) B)) S)

pub record Beyond (B : List ℕ) (S : List (List ℕ)) (s : List ℕ × ℕ) : Type 0 where
  pub cost : length B / wide + s.1 ≡ 2 * levels (B ++ s.0) - length B / wide + parts s.0 (strips B S)
  pub top : Top (B ++ s.0) S
  pub only : strips (B ++ s.0) S ≡ [] ∷ []

levels_all : (Ms : List (List ℕ)) (Z : List ℕ) → All (λ X. length X ≡ wide) Ms → levels (air Ms ++ Z) ≡ length Ms + levels Z
unfolding air
levels_all [] Z h = omega arith
levels_all (X ∷ Ms) Z h = rw (append_assoc, levels_append X (air Ms ++ Z) h.0, levels_all Ms Z h.1) (omega arith)

rows_behind : (Ms : List (List ℕ)) (K : List ℕ) (L : ℕ) (T : List (List ℕ)) → Ahead Ms K L T → All (InLevels (suc L)) (strips (air Ms) T)
unfolding air
rows_behind [] K L T g = let e : 0 + suc L ≡ suc L = omega arith in rw strips_nil (rw e at g.whole)
rows_behind (X ∷ Ms) K L T g = rw strips_append (rows_behind Ms K L (strips X T) (next_ahead X Ms K L T g))

module _ (b : List ℕ) (S : List (List ℕ)) (st : Start b S) (wh : All (InLevels 3) S) (a : Apart S) where
  B : List ℕ
  B = bits b

  j : ℕ
  j = length B / wide

  Ms : List (List ℕ)
  Ms = firsts j B

  K : List ℕ
  K = others j B

  L : ℕ
  L = 2 - j

  long : wide * j ≤ length B
  unfolding j wide
  long = omega arith

  length_ms : length Ms ≡ j
  unfolding Ms
  length_ms = length_firsts j B

  e_b : air Ms ++ K ≡ B
  unfolding Ms K
  e_b = firsts_others j B

  short : length (others (length (bits b) / wide) (bits b)) ≡ length (bits b) % wide
  unfolding B j wide
  short = omega (arith, length_others j B (unfold wide in long))

  ahead : Ahead (firsts (length (bits b) / wide) (bits b)) (others (length (bits b) / wide) (bits b)) (2 - length (bits b) / wide) S
  unfolding Ms K L B j
  ahead =
      let e : length Ms + suc L ≡ 3 = omega (arith, length_ms, st.fits) in
      record {
        full = full_firsts j B long;
        inside = λ h. omega (arith, short, st.inside (omega (arith, length_ms)));
        left = rw e_b st.left;
        whole = rw e wh;
        apart = a;
      }

  T : List (List ℕ)
  T = strips (air Ms) S

  e_t : strips (others (length (bits b) / wide) (bits b)) (strips (air (firsts (length (bits b) / wide) (bits b))) S) ≡ strips (bits b) S
  unfolding T K Ms B j
  e_t = sym (strips_append (air Ms) K S) ∙ ap (λ l. strips l S) e_b

  some_in : 1 ≤ length (strips K T)
  unfolding B K T Ms j
  some_in = rw e_t st.left

  pub beyond_holds : Beyond (bits b) S (beyond (bits b) S)
  unfolding beyond B j Ms K L T
  beyond_holds =
      let h : From K T (from L K T) = from_holds L K T some_in (unfold wide in omega (arith, short, st.early)) (rows_behind Ms K L S ahead) (apart_strips (air Ms) S a) in
      let Y : List ℕ = (from L K T).0 in
      let row : B ++ Y ≡ air Ms ++ (K ++ Y) = ap (λ l. l ++ Y) (sym e_b) ∙ append_assoc (air Ms) K Y in
      let n : levels (B ++ Y) ≡ j + levels (K ++ Y) = ap levels row ∙ levels_all Ms (K ++ Y) ahead.full ∙ ap (λ k. k + levels (K ++ Y)) length_ms in
      record {
        cost = omega (arith, h.cost, n, ap (parts Y) e_t);
        top = top_append B Y S st.top (rw (← e_t) h.top);
        only = rw (row, strips_append) h.only;
      }

-- what holds of all rows holds of the one that is found
pub of_found : (G : List ℕ → Type 0) (P : List ℕ) (S : List (List ℕ)) → strips P S ≡ [] ∷ [] → All G S → G P
of_found G P S e h = rw append-nil at (rw e at (all_strips G (λ t. G (P ++ t)) P S (λ t g. g) h)).0

pub round_run : (F : List Card) (hF : All Fits F) (w b : List ℕ) → branch w ≡ b → Start b (idles F) → Apart (idles F) → (f : ℕ) (v : Vw)
    → goes f asking (marks (bits b ++ (beyond (bits b) (idles F)).0) (idles F)) (at (bits b ++ (beyond (bits b) (idles F)).0) Halt F) ≡ v
    → goes (2 + (length (bits b) / wide + (beyond (bits b) (idles F)).1) + f) asking w F
    ≡ (name (bits b ++ (beyond (bits b) (idles F)).0) ∷ v.0, 2 + (length (bits b) / wide + (beyond (bits b) (idles F)).1) + v.1, v.2)
unfolding beyond ending
round_run F hF w b eb st a f v k =
    let n₁ : 2 + (d + c) + f ≡ suc (d + (c + suc f)) = omega arith in
    let n₂ : 2 + (d + c) + v.1 ≡ suc (d + c + suc v.1) = omega arith in
    rw (n₁, n₂)
    (req (d + (c + suc f)) F hF (more (d + c) u) w (some_before B S st.left) (rw eb
    (rw (length_firsts d B) at (straight_run F hF (firsts d B) (2 - d) [] (others d B) b 0 (suc f) S
    (omega arith) (omega (arith, length_firsts d B, st.fits)) (sym (strips_nil S)) (unfold wide in omega (arith, short b S st wh a, st.early)) (ahead b S st wh a) (sym (firsts_others d B)) u found))))
  where
    S : List (List ℕ)
    S = idles F

    wh : All (InLevels 3) S
    wh = whole_idles F hF

    B : List ℕ
    B = bits b

    d : ℕ
    d = length B / wide

    Y : List ℕ
    Y = (beyond B S).0

    c : ℕ
    c = (beyond B S).1

    u : Vw
    u = (name (B ++ Y) ∷ v.0, suc v.1, v.2)

    row : air (firsts d B) ++ (others d B ++ Y) ≡ B ++ Y
    row = sym (append_assoc (air (firsts d B)) (others d B) Y) ∙ ap (λ l. l ++ Y) (firsts_others d B)

    path : b ++ marks Y (strips (others d B) (strips (air (firsts d B)) S)) ≡ marks (B ++ Y) S
    path = ap (λ T. b ++ marks Y T) (e_t b S st wh a) ∙ ap (λ l. l ++ marks Y (strips B S)) st.marked ∙ sym (marks_append B Y S)

    found : ending F hF (suc f) ([] ++ (air (firsts d B) ++ (others d B ++ Y))) (b ++ marks Y (strips (others d B) (strips (air (firsts d B)) S))) ≡ u
    found = rw (row, path) (hlt_law f F hF v (B ++ Y) (marks (B ++ Y) S) (of_found (InLevels 3) (B ++ Y) S (beyond_holds b S st wh a).only wh) k)
