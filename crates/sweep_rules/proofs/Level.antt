-- A level: the loop of answers comes to bits that some row has and no row is before, and takes one collision for each position of
-- first difference. Assumes nothing.
use mathlib.Core.Path.{◌≡◌, refl}
use Prim.Native.Nat.{ℕ, zero, suc, ◌-◌, ◌≤◌}
use mathlib.Core.Bool.{Bool, true, false, cond}
use mathlib.Core.Option.{Option, none, some}
use mathlib.Core.List.{List, [], ◌∷◌, ◌++◌}
use lib.ListN.{length, length-append}
use native.Mathlib.Omega.{arith}
use Rattle.rows.specs.EachLaws.{bits_right}
use Rattle.rows.specs.Rows.{clean, next, All, Bits}
use Rattle.uid.specs.Order.{Diff, on, off, later, diff, one, parts}
use Rattle.uid.specs.OrderLaws.{lead, from, diff_on, diff_cons}
use Rattle.uid.specs.PartsLaws.{parts_nil}
use Rattle.sweep_rules.proofs.Abstract.{keep, strips, heard, Up, Top, level}
use Rattle.sweep_rules.proofs.First.{strips_nil, strips_append, parts_append}
use Rattle.sweep_rules.proofs.Step.{Step, step, up_later, top_nil}

-- what holds of a row holds, in another form, of what it has left
pub all_strips : (F G : List ℕ → Type 0) (P : List ℕ) (S : List (List ℕ)) → ((t : List ℕ) → F (P ++ t) → G t) → All F S → All G (strips P S)
unfolding strips keep
all_strips F G P [] g h = tt
all_strips F G P (r ∷ S) g h = go (diff P r) refl (all_strips F G P S g h.1)
  where
    go : (D : Diff) → diff P r ≡ D → All G (strips P S) → All G (keep D (strips P S))
    go (on t) e ih = (g t (rw (diff_on P r t e) at h.0), ih)
    go (off p x) e ih = ih

-- ---- first P, then Q

OnUp : Diff → List ℕ → Type 0
OnUp (on t) Q = Up (diff Q t)
OnUp (off p x) Q = Unit {0}

onup_later : (D : Diff) (Q : List ℕ) → OnUp (later D) Q → OnUp D Q
unfolding OnUp later
onup_later (on t) Q h = h
onup_later (off p x) Q h = tt

pub up_unlater : (D : Diff) → Up (later D) → Up D
unfolding later
up_unlater (on t) u = tt
up_unlater (off p x) u = u

up_append : (P Q r : List ℕ) → Up (diff P r) → OnUp (diff P r) Q → Up (diff (P ++ Q) r)
unfolding diff OnUp from
up_append [] Q r u o = o
up_append (x ∷ P) Q r u o = rw (diff_cons x (P ++ Q) r) (go (lead x r) (rw diff_cons at u) (rw diff_cons at o) (up_append P Q))
  where
    go : (d : Option (List ℕ)) → Up (from x P d) → OnUp (from x P d) Q → ((s : List ℕ) → Up (diff P s) → OnUp (diff P s) Q → Up (diff (P ++ Q) s)) → Up (from x (P ++ Q) d)
    go (some s) u o ih = up_later (diff (P ++ Q) s) (ih s (up_unlater (diff P s) u) (onup_later (diff P s) Q o))
    go none u o ih = u

pub top_append : (P Q : List ℕ) (S : List (List ℕ)) → Top P S → Top Q (strips P S) → Top (P ++ Q) S
unfolding strips OnUp keep
top_append P Q [] t h = tt
top_append P Q (r ∷ S) t h = go (diff P r) refl h (top_append P Q S t.1)
  where
    go : (D : Diff) → diff P r ≡ D → Top Q (keep D (strips P S)) → (Top Q (strips P S) → Top (P ++ Q) S) → Top (P ++ Q) (r ∷ S)
    go (on s) e h ih = (up_append P Q r t.0 (rw e h.0), ih h.1)
    go (off p x) e h ih = (up_append P Q r t.0 (rw e tt), ih h)

-- ---- a level

pub record Level (n : ℕ) (T : List (List ℕ)) (q : List ℕ × ℕ) : Type 0 where
  pub full : length q.0 ≡ n
  pub cost : parts q.0 T ≡ q.1
  pub top : Top q.0 T
  pub left : 1 ≤ length (strips q.0 T)

pub level_holds : (f n : ℕ) (T : List (List ℕ)) → n ≤ f → 1 ≤ length T → All (λ r. n ≤ length r) T → All Bits T → Level n T (level f n T)
unfolding level one
level_holds zero n T k h l b = record { full = omega arith; cost = parts_nil T; top = top_nil T; left = rw strips_nil h }
level_holds (suc f) n T k h l b =
    go (clean (heard n T)) (step n T h l b)
    (λ p m. level_holds f (n - length R) (strips R T) (omega arith) m
    (all_strips (λ r. n ≤ length r) (λ t. n - length R ≤ length t) R T (λ t e. omega (arith, length-append R t)) l)
    (all_strips Bits Bits R T (bits_right R) b))
  where
    R : List ℕ
    R = next (heard n T)

    q : List ℕ × ℕ
    q = level f (n - length R) (strips R T)

    go : (c : Bool) → Step n T R c → (1 ≤ length R → 1 ≤ length (strips R T) → Level (n - length R) (strips R T) q) → Level n T (cond c (R, 0) (R ++ q.0, suc q.1))
    go true s ih = record { full = s.fit; cost = s.cost; top = s.top; left = s.left }
    go false s ih = let i : Level (n - length R) (strips R T) q = ih s.fit.0 s.left in record {
      full = rw length-append (omega arith);
      cost = rw parts_append (omega arith);
      top = top_append R q.0 T s.top i.top;
      left = rw strips_append i.left;
    }
