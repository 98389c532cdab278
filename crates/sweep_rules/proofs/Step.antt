-- One answer to the reader: what `next` and `clean` make of what is heard of the rows T.
-- Assumes nothing.
use mathlib.Core.Path.{◌≡◌, refl, sym, ap, ap₂, ◌∙◌}
use Prim.Native.Nat.{ℕ, zero, suc, ◌≤◌, ◌<◌}
use native.Mathlib.Nat.{not-suc-le-zero}
use mathlib.Core.Bool.{Bool, true, false, cond, not, ◌||◌, true≢false, false≢true}
use mathlib.Core.Option.{Option, none, some}
use mathlib.Core.List.{List, [], ◌∷◌, map, tail}
use lib.ListN.{length, take}
use lib.Dec.{eqb, eqb→eq}
use native.Mathlib.Omega.{arith}
use Rattle.rows.specs.CleanLaws.{bit_two, eqb_same}
use Rattle.rows.specs.EachLaws.{all_map, all_weaken}
use Rattle.rows.specs.Rows.{clean, next, any, All, Bits}
use Rattle.uid.specs.Order.{Diff, on, off, later, diff, one, parts}
use Rattle.uid.specs.OrderLaws.{lead, from, lead_some, diff_cons, lead_same}
use Rattle.uid.specs.PartsLaws.{parts_nil}
use Rattle.field.specs.Merge.{meet, join, merge}
use Rattle.field.specs.MergeLaws.{join_nil}
use Rattle.sweep_rules.proofs.Abstract.{strips, heard, Up, Top}
use Rattle.sweep_rules.proofs.First.{put, pull, out, miss, strips_nil, strips_cons, parts_cons}

-- ---- what is heard of the first bits

meet_two : (x : ℕ) → meet x 2 ≡ 2
unfolding meet
meet_two x = go (eqb x 2) refl
  where
    go : (b : Bool) → eqb x 2 ≡ b → cond b x 2 ≡ 2
    go true e = eqb→eq x 2 (rw e tt)
    go false e = refl

meet_miss : (x y : ℕ) (s : List ℕ) (S : List (List ℕ)) → meet x (cond (miss y S) 2 y) ≡ cond (out (lead x (y ∷ s)) || miss x S) 2 x
unfolding lead out meet
meet_miss x y s S = go (eqb x y) refl
  where
    same : (b : Bool) → meet x (cond b 2 x) ≡ cond b 2 x
    same true = meet_two x
    same false = rw eqb_same

    other : (b : Bool) → eqb x y ≡ false → meet x (cond b 2 y) ≡ 2
    other true e = meet_two x
    other false e = rw e

    go : (b : Bool) → eqb x y ≡ b → meet x (cond (miss y S) 2 y) ≡ cond (out (cond b (some s) none) || miss x S) 2 x
    go true e = rw (← eqb→eq x y (rw e tt)) (same (miss x S))
    go false e = other (miss y S) e

pub heard_cons : (n x : ℕ) (r : List ℕ) (S : List (List ℕ)) → All (λ s. suc n ≤ length s) S
    → heard (suc n) ((x ∷ r) ∷ S) ≡ cond (miss x S) 2 x ∷ heard n (r ∷ map tail S)
unfolding heard merge join miss any
heard_cons n x r [] h = simp join_nil
heard_cons n x r ([] ∷ S) h = absurd (not-suc-le-zero h.0)
heard_cons n x r ((y ∷ s) ∷ S) h =
    ap (join (x ∷ take n r)) (heard_cons n y s S h.1) ∙ ap (λ m. m ∷ join (take n r) (heard n (s ∷ map tail S))) (meet_miss x y s S)

pub heard_zero : (S : List (List ℕ)) → heard 0 S ≡ []
unfolding heard merge join
heard_zero [] = refl
heard_zero (r ∷ S) = heard_zero S

-- ---- where no first bit is another than x, all go on

pub pull_all : (x : ℕ) (S : List (List ℕ)) → miss x S ≡ false → pull x S ≡ map tail S
unfolding miss any pull put out
pull_all x [] e = refl
pull_all x (r ∷ S) e = go (lead x r) refl (pull_all x S) e
  where
    go : (o : Option (List ℕ)) → lead x r ≡ o → (miss x S ≡ false → pull x S ≡ map tail S) → (out o || miss x S) ≡ false → put o (pull x S) ≡ tail r ∷ map tail S
    go (some t) p ih q = ap₂ ◌∷◌ (ap tail (sym (lead_some x r t p))) (ih q)
    go none p ih q = absurd (true≢false q)

-- ---- where the first bits differ, some are 1 and some are not

some_one : (S : List (List ℕ)) → All (λ s. 1 ≤ length s) S → All Bits S → miss 0 S ≡ true → 1 ≤ length (pull 1 S)
unfolding miss any pull lead put out
some_one [] h b e = absurd (false≢true e)
some_one ([] ∷ S) h b e = absurd (not-suc-le-zero h.0)
some_one ((zero ∷ s) ∷ S) h b e = some_one S h.1 b.1 e
some_one ((suc zero ∷ s) ∷ S) h b e = omega arith
some_one ((suc (suc x) ∷ s) ∷ S) h b e = omega (arith, b.0.0)

-- ---- the answer

-- the length of what the reader goes on with
abbrev pub Fit : Bool → ℕ → ℕ → Type 0
Fit true n l = l ≡ n
Fit false n l = (1 ≤ l) × (l ≤ n)

pub record Step (n : ℕ) (T : List (List ℕ)) (R : List ℕ) (c : Bool) : Type 0 where
  pub fit : Fit c n (length R)
  -- one position of first difference where the answer collided, and else none
  pub cost : parts R T ≡ one (not c)
  pub top : Top R T
  pub left : 1 ≤ length (strips R T)

pub top_nil : (S : List (List ℕ)) → Top [] S
unfolding diff
top_nil [] = tt
top_nil (r ∷ S) = (tt, top_nil S)

pub up_later : (D : Diff) → Up D → Up (later D)
unfolding later
up_later (on t) u = tt
up_later (off p x) u = u

-- a first bit that is 1, or that all have
pub top_cons : (x : ℕ) (P : List ℕ) (S : List (List ℕ)) → (miss x S ≡ true → x ≡ 1) → Top P (pull x S) → Top (x ∷ P) S
unfolding miss any pull put out from
top_cons x P [] h t = tt
top_cons x P (r ∷ S) h t = rw diff_cons (go (lead x r) (top_cons x P S) h t)
  where
    go : (o : Option (List ℕ)) → ((miss x S ≡ true → x ≡ 1) → Top P (pull x S) → Top (x ∷ P) S) → ((out o || miss x S) ≡ true → x ≡ 1)
        → Top P (put o (pull x S)) → Up (from x P o) × Top (x ∷ P) S
    go (some u) ih h t = (up_later (diff P u) t.0, ih h t.1)
    go none ih h t = (h refl, ih (λ e. h refl) t)

-- the first bits differ: the reader goes on with a 1
pub miss_one : (x : ℕ) (r : List ℕ) (S : List (List ℕ)) → x < 2 → miss x S ≡ true → miss 1 ((x ∷ r) ∷ S) ≡ true
unfolding miss any lead out
miss_one zero r S h e = refl
miss_one (suc zero) r S h e = e
miss_one (suc (suc x)) r S h e = absurd (omega arith)

pull_one : (x : ℕ) (r : List ℕ) (S : List (List ℕ)) → x < 2 → All (λ s. 1 ≤ length s) S → All Bits S → miss x S ≡ true → 1 ≤ length (pull 1 ((x ∷ r) ∷ S))
unfolding pull lead put
pull_one zero r S hx h b e = some_one S h b e
pull_one (suc zero) r S hx h b e = omega arith
pull_one (suc (suc x)) r S hx h b e = absurd (omega arith)

clash : (n x : ℕ) (r : List ℕ) (S : List (List ℕ)) → x < 2 → All (λ s. 1 ≤ length s) S → All Bits S → miss x S ≡ true → Step (suc n) ((x ∷ r) ∷ S) (1 ∷ []) false
unfolding one
clash n x r S hx h b e = record {
  fit = (omega arith, omega arith);
  cost = rw (parts_cons, miss_one x r S hx e, parts_nil);
  top = top_cons 1 [] ((x ∷ r) ∷ S) (λ e. refl) (top_nil (pull 1 ((x ∷ r) ∷ S)));
  left = rw (strips_cons, strips_nil) (pull_one x r S hx h b e);
}

-- all first bits are x: they are known, and the rest of the answer decides
fit_suc : (c : Bool) (n l : ℕ) → Fit c n l → Fit c (suc n) (suc l)
fit_suc true n l h = omega arith
fit_suc false n l h = omega arith

agree : (n x : ℕ) (T : List (List ℕ)) (R : List ℕ) (c : Bool) → miss x T ≡ false → Step n (map tail T) R c → Step (suc n) T (x ∷ R) c
unfolding one
agree n x T R c e s = record {
  fit = fit_suc c n (length R) s.fit;
  cost = rw (parts_cons, e, pull_all x T e) (omega (arith, s.cost));
  top = top_cons x R T (λ e'. absurd (true≢false (sym e' ∙ e))) (rw (pull_all x T e) s.top);
  left = rw (strips_cons, pull_all x T e) s.left;
}

pub miss_same : (x : ℕ) (r : List ℕ) (S : List (List ℕ)) → miss x S ≡ false → miss x ((x ∷ r) ∷ S) ≡ false
unfolding miss any out
miss_same x r S e = rw lead_same e

pub long_tail : (n : ℕ) (r : List ℕ) → suc n ≤ length r → n ≤ length (tail r)
long_tail n [] h = absurd (not-suc-le-zero h)
long_tail n (x ∷ r) h = omega arith

bits_tail : (r : List ℕ) → Bits r → Bits (tail r)
bits_tail [] h = tt
bits_tail (x ∷ r) h = h.1

pub step : (n : ℕ) (T : List (List ℕ)) → 1 ≤ length T → All (λ r. n ≤ length r) T → All Bits T → Step n T (next (heard n T)) (clean (heard n T))
unfolding next clean one
step zero T h l b = rw heard_zero (record { fit = refl; cost = parts_nil T; top = top_nil T; left = rw strips_nil h })
step (suc n) [] h l b = absurd (not-suc-le-zero h)
step (suc n) ([] ∷ S) h l b = absurd (not-suc-le-zero l.0)
step (suc n) ((x ∷ r) ∷ S) h l b =
    let T : List (List ℕ) = (x ∷ r) ∷ S in
    rw (heard_cons n x r S l.1)
    (go (miss x S) refl (step n (map tail T) (omega arith) (all_map (λ r. n ≤ length r) tail T (long_tail n) l) (all_map Bits tail T bits_tail b)))
  where
    go : (m : Bool) → miss x S ≡ m → Step n (r ∷ map tail S) (next (heard n (r ∷ map tail S))) (clean (heard n (r ∷ map tail S)))
        → Step (suc n) ((x ∷ r) ∷ S) (next (cond m 2 x ∷ heard n (r ∷ map tail S))) (clean (cond m 2 x ∷ heard n (r ∷ map tail S)))
    go true e ih = clash n x r S b.0.0 (all_weaken S (λ r h. omega arith) l.1) b.1 e
    go false e ih = rw (bit_two x b.0.0) (agree n x ((x ∷ r) ∷ S) _ _ (miss_same x r S e) ih)
