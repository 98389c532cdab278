-- The path over rows alone: where its bits are P and the rows of the field S, a 2 stands exactly where another row parts from P. Assumes nothing.
use mathlib.Core.Path.{◌≡◌, refl, sym, ap, ap₂, ◌∙◌}
use Prim.Native.Nat.{ℕ, zero, suc, ◌≤◌, ◌<◌}
use native.Mathlib.Nat.{not-suc-le-zero}
use mathlib.Core.Bool.{Bool, true, false, cond, ◌||◌, false≢true}
use mathlib.Core.Option.{Option, none, some}
use mathlib.Core.List.{List, [], ◌∷◌, ◌++◌, map, tail, append-nil, head-eq_of_cons-eq}
use lib.ListN.{length}
use lib.Dec.{ltb}
use native.Mathlib.Omega.{arith}
use Rattle.rows.specs.CleanLaws.{not_nil, bit_two}
use Rattle.rows.specs.EachLaws.{all_map, all_weaken}
use Rattle.rows.specs.Rows.{clean, next, is_nil, any, All, Bits}
use Rattle.uid.specs.Order.{Diff, on, off, later, diff}
use Rattle.uid.specs.OrderLaws.{lead, from, diff_cons, diff_on, Off}
use Rattle.memory.specs.Memory.{bits, keeping}
use Rattle.sweep_rules.proofs.Abstract.{keep, strips, leave, rest, heard, Up, Top, Apart}
use Rattle.sweep_rules.proofs.First.{put, pull, out, miss, strips_nil, strips_cons}
use Rattle.sweep_rules.proofs.Level.{all_strips, up_unlater}
use Rattle.sweep_rules.proofs.Sort.{all_rest}
use Rattle.sweep_rules.proofs.Step.{Step, step, heard_cons, heard_zero, long_tail, pull_all, miss_one, miss_same}

unfoldable pub marks : List ℕ → List (List ℕ) → List ℕ
marks [] S = []
marks (x ∷ P) S = cond (miss x S) 2 x ∷ marks P (pull x S)

pub marks_append : (P Q : List ℕ) (S : List (List ℕ)) → marks (P ++ Q) S ≡ marks P S ++ marks Q (strips P S)
unfolding marks
marks_append [] Q S = rw strips_nil
marks_append (x ∷ P) Q S = rw (strips_cons, marks_append P Q (pull x S))

pub length_marks : (P : List ℕ) (S : List (List ℕ)) → length (marks P S) ≡ length P
unfolding marks
length_marks [] S = refl
length_marks (x ∷ P) S = ap suc (length_marks P (pull x S))

-- no row, no 2
pub marks_none : (P : List ℕ) → marks P [] ≡ P
unfolding marks miss any pull
marks_none [] = refl
marks_none (x ∷ P) = ap (λ l. x ∷ l) (marks_none P)

-- ---- no row comes before P

pub top_uncons : (x : ℕ) (P : List ℕ) (S : List (List ℕ)) → Top (x ∷ P) S → (miss x S ≡ true → x ≡ 1) × Top P (pull x S)
unfolding miss any pull put out from
top_uncons x P [] t = (λ e. absurd (false≢true e), tt)
top_uncons x P (r ∷ S) t = go (lead x r) (rw diff_cons at t.0) (top_uncons x P S t.1)
  where
    go : (o : Option (List ℕ)) → Up (from x P o) → (miss x S ≡ true → x ≡ 1) × Top P (pull x S)
        → ((out o || miss x S) ≡ true → x ≡ 1) × Top P (put o (pull x S))
    go (some u) h ih = (ih.0, (up_unlater (diff P u) h, ih.1))
    go none h ih = (λ e. h, ih.1)

pub mark_bit : (x : ℕ) (m : Bool) → x < 2 → (m ≡ true → x ≡ 1) → cond (ltb 1 (cond m 2 x)) 1 (cond m 2 x) ≡ x
mark_bit x true h t = sym (t refl)
mark_bit x false h t = rw (bit_two x h)

pub bits_marks : (P : List ℕ) (S : List (List ℕ)) → Bits P → Top P S → bits (marks P S) ≡ P
unfolding marks bits
bits_marks [] S b t = refl
bits_marks (x ∷ P) S b t = let u : (miss x S ≡ true → x ≡ 1) × Top P (pull x S) = top_uncons x P S t in
    ap₂ ◌∷◌ (mark_bit x (miss x S) b.0 u.0) (bits_marks P (pull x S) b.1 u.1)

-- ---- what is heard

keeping_cons : (x : ℕ) (R : List ℕ) → 1 ≤ length R → keeping (x ∷ R) ≡ x ∷ keeping R
unfolding keeping
keeping_cons x R h = rw (not_nil R h)

pub step_marks : (n : ℕ) (T : List (List ℕ)) → 1 ≤ length T → All (λ r. n ≤ length r) T → All Bits T
    → marks (next (heard n T)) T ≡ cond (clean (heard n T)) (next (heard n T)) (keeping (next (heard n T)))
unfolding next clean marks
step_marks zero T h l b = rw heard_zero
step_marks (suc n) [] h l b = absurd (not-suc-le-zero h)
step_marks (suc n) ([] ∷ S) h l b = absurd (not-suc-le-zero l.0)
step_marks (suc n) ((x ∷ r) ∷ S) h l b =
    rw (heard_cons n x r S l.1)
    (go (miss x S) refl (step n T' (omega arith) l' b') (step_marks n T' (omega arith) l' b'))
  where
    T : List (List ℕ)
    T = (x ∷ r) ∷ S

    T' : List (List ℕ)
    T' = map tail T

    l' : All (λ r. n ≤ length r) T'
    l' = all_map (λ r. n ≤ length r) tail T (long_tail n) l

    tail_bits : (r : List ℕ) → Bits r → Bits (tail r)
    tail_bits [] h = tt
    tail_bits (x ∷ r) h = h.1

    b' : All Bits T'
    b' = all_map Bits tail T tail_bits b

    H : List ℕ
    H = heard n T'

    longer : (c : Bool) → Step n T' (next H) c → x ∷ cond c (next H) (keeping (next H)) ≡ cond c (x ∷ next H) (keeping (x ∷ next H))
    longer true s = refl
    longer false s = sym (keeping_cons x (next H) s.fit.0)

    go : (m : Bool) → miss x S ≡ m → Step n T' (next H) (clean H) → marks (next H) T' ≡ cond (clean H) (next H) (keeping (next H))
        → marks (next (cond m 2 x ∷ H)) T ≡ cond (clean (cond m 2 x ∷ H)) (next (cond m 2 x ∷ H)) (keeping (next (cond m 2 x ∷ H)))
    go true e s ih = unfold keeping is_nil in rw (miss_one x r S b.0.0 e)
    go false e s ih =
        rw (bit_two x b.0.0, miss_same x r S e, pull_all x T (miss_same x r S e))
        (ap (λ l. x ∷ l) ih ∙ longer (clean H) s)

-- ---- the rows but the one that was found

pub strips_rest : (P : List ℕ) (S : List (List ℕ)) → strips P (rest P S) ≡ []
unfolding strips rest leave keep
strips_rest P [] = refl
strips_rest P (r ∷ S) = go (diff P r) refl (strips_rest P S)
  where
    go : (D : Diff) → diff P r ≡ D → strips P (rest P S) ≡ [] → strips P (leave D r (rest P S)) ≡ []
    go (on t) d ih = ih
    go (off p x) d ih = rw d ih

module _ (x : ℕ) (P : List ℕ) where
  miss_rest : (S : List (List ℕ)) → miss x (rest (x ∷ P) S) ≡ miss x S
  unfolding miss any rest leave out from later
  miss_rest [] = refl
  miss_rest (r ∷ S) = rw diff_cons (go (lead x r) refl (miss_rest S))
    where
      here : (t : List ℕ) (D : Diff) → lead x r ≡ some t → miss x (rest (x ∷ P) S) ≡ miss x S → miss x (leave (later D) r (rest (x ∷ P) S)) ≡ miss x S
      here t (on u) e ih = ih
      here t (off p y) e ih = rw e ih

      go : (o : Option (List ℕ)) → lead x r ≡ o → miss x (rest (x ∷ P) S) ≡ miss x S → miss x (leave (from x P o) r (rest (x ∷ P) S)) ≡ (out o || miss x S)
      go (some t) e ih = here t (diff P t) e ih
      go none e ih = rw e

  pull_rest : (S : List (List ℕ)) → pull x (rest (x ∷ P) S) ≡ rest P (pull x S)
  unfolding pull put rest leave from later
  pull_rest [] = refl
  pull_rest (r ∷ S) = rw diff_cons (go (lead x r) refl (pull_rest S))
    where
      here : (t : List ℕ) (D : Diff) → lead x r ≡ some t → pull x (rest (x ∷ P) S) ≡ rest P (pull x S)
          → pull x (leave (later D) r (rest (x ∷ P) S)) ≡ leave D t (rest P (pull x S))
      here t (on u) e ih = ih
      here t (off p y) e ih = rw e (ap (λ l. t ∷ l) ih)

      go : (o : Option (List ℕ)) → lead x r ≡ o → pull x (rest (x ∷ P) S) ≡ rest P (pull x S)
          → pull x (leave (from x P o) r (rest (x ∷ P) S)) ≡ rest P (put o (pull x S))
      go (some t) e ih = here t (diff P t) e ih
      go none e ih = rw e ih

pub marks_rest : (P : List ℕ) (S : List (List ℕ)) → marks P (rest P S) ≡ marks P S
unfolding marks
marks_rest [] S = refl
marks_rest (x ∷ P) S = rw (miss_rest x P S, pull_rest x P S, marks_rest P (pull x S))

-- none of them is the head of the one that was found
pub rest_off : (P : List ℕ) (S : List (List ℕ)) → Apart S → strips P S ≡ [] ∷ [] → All (λ s. Off (diff s P)) (rest P S)
unfolding strips keep rest leave
rest_off P [] a e = tt
rest_off P (r ∷ S) a e = go (diff P r) refl e (rest_off P S a.1)
  where
    go : (D : Diff) → diff P r ≡ D → keep D (strips P S) ≡ [] ∷ [] → (strips P S ≡ [] ∷ [] → All (λ s. Off (diff s P)) (rest P S)) → All (λ s. Off (diff s P)) (leave D r (rest P S))
    go (on u) d e' ih =
        let r≡P : r ≡ P = diff_on P r u d ∙ ap (λ l. P ++ l) (head-eq_of_cons-eq e') ∙ append-nil P in
        all_rest (λ s. Off (diff s P)) P S (rw r≡P at (all_weaken {F = λ s. Off (diff r s) × Off (diff s r)} {G = λ s. Off (diff s r)} S (λ s o. o.1) a.0))
    go (off p x) d e' ih =
        let h : All (λ t. Off (diff r (P ++ t))) (strips P S) = all_strips (λ s. Off (diff r s) × Off (diff s r)) (λ t. Off (diff r (P ++ t))) P S (λ t o. o.0) a.0 in
        (rw append-nil at (rw e' at h).0, ih e')
