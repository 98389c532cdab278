-- Where the last byte of a level is settled by the bits before it, the first collision is before that byte. Assumes nothing.
use mathlib.Core.Path.{◌≡◌, refl, sym, ap, ◌∙◌}
use Prim.Native.Nat.{ℕ, zero, suc, ◌≤◌, ◌<◌, ◌+◌, ◌-◌, ◌*◌}
use native.Mathlib.Nat.{not-suc-le-zero}
use mathlib.Core.Bool.{Bool, true, false, cond, true≢false}
use mathlib.Core.List.{List, [], ◌∷◌, ◌++◌, map, tail, append_assoc, append_cancel_left}
use lib.ListN.{length-map, length, take, drop, length-append}
use lib.Seq.{length-take-le, drop_at, take-append-add, take-take}
use native.Mathlib.Omega.{arith}
use Rattle.rows.specs.CleanLaws.{next_take, bits_clean}
use Rattle.rows.specs.EachLaws.{all_zip, all_map, all_weaken}
use Rattle.rows.specs.ListLaws.{all_take_law, all_unmap}
use Rattle.rows.specs.Rows.{clean, next, All, Bits}
use Rattle.uid.specs.CheckLaws.{check_of, Checked}
use Rattle.uid.specs.LevelLaws.{wide, lev}
use Rattle.field.specs.Merge.{merge}
use Rattle.field.specs.MergeLaws.{merge_same, clean_merge}
use Rattle.sweep_rules.proofs.Abstract.{strips, heard}
use Rattle.sweep_rules.proofs.First.{miss}
use Rattle.sweep_rules.proofs.Level.{all_strips}
use Rattle.sweep_rules.proofs.Machine.{Open}
use Rattle.sweep_rules.proofs.Step.{heard_cons, heard_zero, long_tail, Step, step}

-- where no bit collided all rows go on with what was heard
pub clean_all : (n : ℕ) (T : List (List ℕ)) → 1 ≤ length T → All (λ r. n ≤ length r) T → clean (heard n T) ≡ true → All (λ r. take n r ≡ heard n T) T
unfolding heard
clean_all n T h l e =
    all_unmap (λ x. x ≡ merge (map (take n) T)) (take n) T
    (clean_merge n (map (take n) T) (rw length-map h) (all_map {F = λ r. n ≤ length r} (λ x. length x ≡ n) (take n) T (λ r k. length-take-le n r k) l) e)

-- fewer bits are heard as the first of more
heard_take : (m n : ℕ) (T : List (List ℕ)) → m ≤ n → 1 ≤ length T → All (λ r. n ≤ length r) T → take m (heard n T) ≡ heard m T
heard_take zero n T k h l = rw heard_zero
heard_take (suc m) zero T k h l = absurd (not-suc-le-zero k)
heard_take (suc m) (suc n) [] k h l = absurd (not-suc-le-zero h)
heard_take (suc m) (suc n) ([] ∷ S) k h l = absurd (not-suc-le-zero l.0)
heard_take (suc m) (suc n) ((x ∷ r) ∷ S) k h l =
    rw (heard_cons n x r S l.1, heard_cons m x r S (all_weaken {F = λ s. suc n ≤ length s} S (λ s h. omega arith) l.1))
    (ap (λ t. cond (miss x S) 2 x ∷ t) (heard_take m n (map tail ((x ∷ r) ∷ S)) (omega arith) (omega arith) (all_map (λ r. n ≤ length r) tail ((x ∷ r) ∷ S) (long_tail n) l)))

same_heard : (n : ℕ) (x : List ℕ) (T : List (List ℕ)) → 1 ≤ length T → All (λ r. take n r ≡ x) T → heard n T ≡ x
unfolding heard
same_heard n x T h a = merge_same (take n) n x T h a

head_bits : (n : ℕ) (x : List ℕ) (T : List (List ℕ)) → 1 ≤ length T → All Bits T → All (λ r. take n r ≡ x) T → Bits x
head_bits n x [] h b a = absurd (not-suc-le-zero h)
head_bits n x (r ∷ T) h b a = rw a.0 at (all_take_law (λ x. x < 2) n r b.0)

-- `full` gives all n bits by the first m, as a check byte does
clash_early : (full : List ℕ → List ℕ) (m n : ℕ) (T : List (List ℕ)) → m ≤ n → 1 ≤ length T → All (λ r. n ≤ length r) T → All Bits T
    → All (λ r. take n r ≡ full (take m r)) T → clean (heard n T) ≡ false → length (next (heard n T)) ≤ m
clash_early full m n T k h l b t e = go (clean (heard m T)) refl (step m T h lm b)
  where
    lm : All (λ r. m ≤ length r) T
    lm = all_weaken {F = λ r. n ≤ length r} T (λ r h. omega arith) l

    x : List ℕ
    x = full (heard m T)

    go : (c : Bool) → clean (heard m T) ≡ c → Step m T (next (heard m T)) c → length (next (heard n T)) ≤ m
    go true c s =
        let a : All (λ r. take n r ≡ x) T = all_zip T (λ r p q. q ∙ ap full p) (clean_all m T h lm c) t in
        absurd (true≢false (sym (rw (same_heard n x T h a) (bits_clean x (head_bits n x T h b a))) ∙ e))
    go false c s =
        let e' : take m (heard n T) ≡ heard m T = heard_take m n T k h l in
        rw (next_take m (heard n T) (rw e' c), e') s.fit.1

-- the level's last byte is settled by the bits before it, of which K are known
check_early : (check : List ℕ → List ℕ) (K : List ℕ) (m n : ℕ) (T : List (List ℕ)) → m ≤ n → 1 ≤ length T → All (λ r. n ≤ length r) T → All Bits T
    → All (λ t. K ++ take n t ≡ K ++ take m t ++ check (K ++ take m t)) T → clean (heard n T) ≡ false → length (next (heard n T)) ≤ m
check_early check K m n T k h l b c e =
    clash_early (λ y. y ++ check (K ++ y)) m n T k h l b
    (all_weaken {F = λ t. K ++ take n t ≡ K ++ take m t ++ check (K ++ take m t)} T
    (λ t p. append_cancel_left K (take n t) (take m t ++ check (K ++ take m t)) (p ∙ append_assoc K (take m t) (check (K ++ take m t)))) c) e

module _ (j n m : ℕ) (P K : List ℕ) (h_p : length P ≡ wide * j) (hn : wide ≡ length K + n) (hm : 32 ≡ length K + m) (k : m ≤ n) where
  lev_open : (t : List ℕ) → lev j (P ++ K ++ t) ≡ K ++ take n t
  unfolding lev
  lev_open t =
      ap (λ l. take wide (drop (wide * j) l)) (append_assoc P K t) ∙ ap (take wide) (drop_at P (K ++ t) (wide * j) h_p)
      ∙ ap (λ w. take w (K ++ t)) hn ∙ take-append-add K t n

  first_bits : (t : List ℕ) → take 32 (K ++ take n t) ≡ K ++ take m t
  first_bits t = ap (λ w. take w (K ++ take n t)) hm ∙ take-append-add K (take n t) m ∙ ap (λ l. K ++ l) (take-take m n t k)

  pub tied : (t : List ℕ) → Checked (P ++ K ++ t) → n ≤ length t → K ++ take n t ≡ K ++ take m t ++ check_of (K ++ take m t)
  unfolding wide
  tied t c h =
      rw (lev_open t, first_bits t) at (c j (rw (length-append, length-append, h_p) (omega arith)))

-- so it is for all that are left
pub all_tied : (S : List (List ℕ)) (j n m : ℕ) (P K : List ℕ) → All Checked S → Open 32 S j n P K → 32 ≡ length K + m
    → All (λ t. K ++ take n t ≡ K ++ take m t ++ check_of (K ++ take m t)) (strips (P ++ K) S)
unfolding wide
all_tied S j n m P K cs o hm =
    all_zip (strips (P ++ K) S) (λ t f h. f h)
    (all_strips Checked (λ t. n ≤ length t → K ++ take n t ≡ K ++ take m t ++ check_of (K ++ take m t)) (P ++ K) S
    (tied j n m P K o.before o.room hm (omega (arith, o.room, o.early))) cs) o.long

pub law_early_32 : (S : List (List ℕ)) (j n : ℕ) (P K : List ℕ) → All Checked S → Open 32 S j n P K
    → clean (heard n (strips (P ++ K) S)) ≡ false → length (K ++ next (heard n (strips (P ++ K) S))) ≤ 32
unfolding wide
law_early_32 S j n P K cs o e =
    let T : List (List ℕ) = strips (P ++ K) S in
    let m : ℕ = 32 - length K in
    let hm : 32 ≡ length K + m = omega (arith, o.early) in
    let k : m ≤ n = omega (arith, o.room, o.early) in
    let g : length (next (heard n T)) ≤ m = check_early check_of K m n T k o.some_in o.long o.bits (all_tied S j n m P K cs o hm) e in
    rw length-append (omega arith)
