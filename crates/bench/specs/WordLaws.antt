-- Laws of words. Assumes nothing.
use Rattle.std.specs.Prelude.{◌≡◌, refl, List, [], ◌∷◌, ◌++◌, ℕ, zero, suc, ◌+◌, ◌-◌, ◌≤◌, ◌<◌, length, take, drop, get_or}
use Rattle.std.proofs.Common.{sym, ap, ◌∙◌, append_assoc, add-one, arith, length-drop, drop_of_length-le, drop-cons, take-suc, get_or-drop, eq-eqb, ne_eqb, length-append}
use Rattle.std.proofs.Math.Seq.{get_or-append_seam, take-append_seam}
use Rattle.rows.specs.Rows.{All}
use Rattle.bench.specs.Words.{after_gap, first_run, after_run, word_at, without_return}

-- ---- the loop over spaces

pub gap_next : (l : List ℕ) (i : ℕ) → i < length l → get_or l i 0 ≡ 32 → after_gap (drop i l) ≡ after_gap (drop (i + 1) l)
unfolding after_gap
gap_next l i h e = rw (add-one, drop-cons l i 0) (rw (eq-eqb (get_or l i 0) 32 e))

pub gap_here : (l : List ℕ) (i : ℕ) → i < length l → (get_or l i 0 ≡ 32 → ⊥) → after_gap (drop i l) ≡ drop i l
unfolding after_gap
gap_here l i h e = rw (drop-cons l i 0) (rw (ne_eqb (get_or l i 0) 32 e))

pub gap_done : (l : List ℕ) (i : ℕ) → length l ≤ i → after_gap (drop i l) ≡ drop i l
unfolding after_gap
gap_done l i h = rw (drop_of_length-le l h)

-- ---- the loop over letters

pub run_next : (l : List ℕ) (i : ℕ) → i < length l → (get_or l i 0 ≡ 32 → ⊥) → after_run (drop i l) ≡ after_run (drop (i + 1) l)
unfolding after_run
run_next l i h e = rw (add-one, drop-cons l i 0) (rw (ne_eqb (get_or l i 0) 32 e))

pub run_here : (l : List ℕ) (i : ℕ) → i < length l → get_or l i 0 ≡ 32 → after_run (drop i l) ≡ drop i l
unfolding after_run
run_here l i h e = rw (drop-cons l i 0) (rw (eq-eqb (get_or l i 0) 32 e))

pub run_done : (l : List ℕ) (i : ℕ) → length l ≤ i → after_run (drop i l) ≡ drop i l
unfolding after_run
run_done l i h = rw (drop_of_length-le l h)

-- the letters so far, and those that are left
pub letters_next : (l : List ℕ) (from i : ℕ) → from ≤ i → i < length l → (get_or l i 0 ≡ 32 → ⊥)
    → take (i + 1 - from) (drop from l) ++ first_run (drop (i + 1) l) ≡ take (i - from) (drop from l) ++ first_run (drop i l)
unfolding first_run
letters_next l from i b h e =
    let n : i + 1 - from ≡ suc (i - from) = omega arith in
    let k : from + (i - from) ≡ i = omega arith in
    let g : get_or (drop from l) (i - from) 0 ≡ get_or l i 0 = get_or-drop from l (i - from) 0 ∙ ap (λ (j : ℕ). get_or l j 0) k in
    rw (n, take-suc (drop from l) (i - from) 0 (rw length-drop (omega arith)), g, append_assoc)
    (ap (λ (t : List ℕ). take (i - from) (drop from l) ++ t) (rw (add-one, drop-cons l i 0 h) (rw (ne_eqb (get_or l i 0) 32 e))))

pub letters_here : (l : List ℕ) (i : ℕ) → i < length l → get_or l i 0 ≡ 32 → first_run (drop i l) ≡ []
unfolding first_run
letters_here l i h e = rw (drop-cons l i 0) (rw (eq-eqb (get_or l i 0) 32 e))

pub letters_done : (l : List ℕ) (i : ℕ) → length l ≤ i → first_run (drop i l) ≡ []
unfolding first_run
letters_done l i h = rw (drop_of_length-le l h)

-- ---- the loop over words

pub word_next : (k i : ℕ) (l : List ℕ) → i < k → word_at (k - i) l ≡ word_at (k - (i + 1)) (after_run (after_gap l))
unfolding word_at
word_next k i l h = let e : k - i ≡ suc (k - (i + 1)) = omega arith in rw e

-- ---- what words are

-- no space
abbrev pub Letters : List ℕ → Type 0
Letters w = All (λ x. x ≡ 32 → ⊥) w

-- a space in front changes no word
pub word_gap : (k : ℕ) (l : List ℕ) → word_at k (32 ∷ l) ≡ word_at k l
unfolding word_at after_gap
word_gap zero l = refl
word_gap (suc k) l = refl

run_first : (w l : List ℕ) → Letters w → first_run (w ++ (32 ∷ l)) ≡ w
unfolding first_run
run_first [] l h = refl
run_first (x ∷ w) l h = rw (ne_eqb x 32 h.0) (ap (λ (t : List ℕ). x ∷ t) (run_first w l h.1))

run_after : (w l : List ℕ) → Letters w → after_run (w ++ (32 ∷ l)) ≡ 32 ∷ l
unfolding after_run
run_after [] l h = refl
run_after (x ∷ w) l h = rw (ne_eqb x 32 h.0) (run_after w l h.1)

-- the first word of letters, a space and more is the letters, and the others are those of what follows
pub word_first : (x : ℕ) (w l : List ℕ) → Letters (x ∷ w) → word_at 0 ((x ∷ w) ++ (32 ∷ l)) ≡ x ∷ w
unfolding word_at after_gap
word_first x w l h = rw (ne_eqb x 32 h.0) (run_first (x ∷ w) l h)

pub word_later : (k x : ℕ) (w l : List ℕ) → Letters (x ∷ w) → word_at (suc k) ((x ∷ w) ++ (32 ∷ l)) ≡ word_at k l
unfolding word_at after_gap
word_later k x w l h = rw (ne_eqb x 32 h.0, run_after (x ∷ w) l h) (word_gap k l)

-- ---- the carriage return

pub return_none : (l : List ℕ) → length l ≡ 0 → l ≡ without_return l
unfolding without_return
return_none [] e = refl
return_none (x ∷ l) e = absurd (omega arith)

-- a line that ends with a carriage return is cut there, and any other stays
pub return_cut : (l t : List ℕ) (x : ℕ) → l ≡ t ++ (x ∷ []) → x ≡ 13 → t ≡ without_return l
unfolding without_return
return_cut l t x e f =
    let n : length l - 1 ≡ length t = rw (e, length-append) (omega arith) in
    let g : get_or l (length t) 0 ≡ 13 = rw (e, get_or-append_seam t x [] 0) f in
    rw (n, eq-eqb (get_or l (length t) 0) 13 g, e) (sym (take-append_seam t (x ∷ [])))

pub return_kept : (l t : List ℕ) (x : ℕ) → l ≡ t ++ (x ∷ []) → (x ≡ 13 → ⊥) → l ≡ without_return l
unfolding without_return
return_kept l t x e f =
    let n : length l - 1 ≡ length t = rw (e, length-append) (omega arith) in
    let g : get_or l (length t) 0 ≡ x = rw e (get_or-append_seam t x [] 0) in
    rw (n, ne_eqb (get_or l (length t) 0) 13 (λ h. f (sym g ∙ h)))
