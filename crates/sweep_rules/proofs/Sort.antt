-- The falling sort begins with the row before which no other comes, and goes on with the sort of the others.
-- Assumes nothing.
use mathlib.Core.Path.{◌≡◌, refl, ap, ◌∙◌}
use Prim.Native.Nat.{ℕ, suc, ◌+◌}
use mathlib.Core.Bool.{Bool, true, false, cond, ◌||◌}
use mathlib.Core.List.{List, [], ◌∷◌, ◌++◌, append-nil, cons≢nil, head-eq_of_cons-eq, tail-eq_of_cons-eq}
use lib.ListN.{length}
use native.Mathlib.Omega.{arith}
use Rattle.rows.specs.Rows.{any, All}
use Rattle.uid.specs.Order.{insert_on, sort_on, Diff, on, off, diff, parts_at, parts, is_up, above}
use Rattle.uid.specs.OrderLaws.{Off, diff_on}
use Rattle.uid.specs.PartsLaws.{count_cong}
use Rattle.uid.specs.SortLaws.{all_sort, above_asym}
use Rattle.sweep_rules.proofs.Abstract.{keep, strips, leave, rest, Up, Top, insert, sort, Apart}

-- ---- sorting keeps the positions of first difference

or_swap : (a b c : Bool) → (a || (b || c)) ≡ (b || (a || c))
or_swap true true c = refl
or_swap true false c = refl
or_swap false b c = refl

any_insert : {A : Type 0} (key : A → List ℕ) (f : A → Bool) (r : A) (l : List A) → any f (insert_on key r l) ≡ (f r || any f l)
unfolding insert_on any
any_insert key f r [] = refl
any_insert key f r (s ∷ l) = go (above (key r) (key s)) (any_insert key f r l)
  where
    go : (b : Bool) → any f (insert_on key r l) ≡ (f r || any f l) → any f (cond b (r ∷ s ∷ l) (s ∷ insert_on key r l)) ≡ (f r || (f s || any f l))
    go true ih = refl
    go false ih = ap (◌||◌ (f s)) ih ∙ or_swap (f s) (f r) (any f l)

pub any_sort : {A : Type 0} (key : A → List ℕ) (f : A → Bool) (S : List A) → any f (sort_on key S) ≡ any f S
unfolding sort_on any
any_sort key f [] = refl
any_sort key f (r ∷ S) = any_insert key f r (sort_on key S) ∙ ap (◌||◌ (f r)) (any_sort key f S)

pub parts_sort : (P : List ℕ) (S : List (List ℕ)) → parts P (sort S) ≡ parts P S
unfolding parts
parts_sort P S = count_cong (length P) (λ q l. any_sort (λ s. s) (λ r. parts_at q (diff P r)) S)

-- ---- the rows that are left

pub all_rest : (F : List ℕ → Type 0) (P : List ℕ) (S : List (List ℕ)) → All F S → All F (rest P S)
unfolding rest leave
all_rest F P [] h = tt
all_rest F P (r ∷ S) h = go (diff P r) (all_rest F P S h.1)
  where
    go : (D : Diff) → All F (rest P S) → All F (leave D r (rest P S))
    go (on t) ih = ih
    go (off p x) ih = (h.0, ih)

pub apart_rest : (P : List ℕ) (S : List (List ℕ)) → Apart S → Apart (rest P S)
unfolding rest leave
apart_rest P [] h = tt
apart_rest P (r ∷ S) h = go (diff P r) (apart_rest P S h.1)
  where
    go : (D : Diff) → Apart (rest P S) → Apart (leave D r (rest P S))
    go (on t) ih = ih
    go (off p x) ih = (all_rest (λ s. Off (diff r s) × Off (diff s r)) P S h.0, ih)

pub length_rest : (P : List ℕ) (S : List (List ℕ)) → length S ≡ length (strips P S) + length (rest P S)
unfolding rest leave strips keep
length_rest P [] = refl
length_rest P (r ∷ S) = go (diff P r) (length_rest P S)
  where
    go : (D : Diff) → length S ≡ length (strips P S) + length (rest P S) → suc (length S) ≡ length (keep D (strips P S)) + length (leave D r (rest P S))
    go (on t) ih = omega arith
    go (off p x) ih = omega arith

-- ---- the first of the sort

insert_top : (r : List ℕ) (l : List (List ℕ)) → All (λ s. above r s ≡ true) l → insert r l ≡ r ∷ l
unfolding insert_on
insert_top r [] h = refl
insert_top r (s ∷ l) h = rw h.0

-- none of S begins with P
others : (P : List ℕ) (S : List (List ℕ)) → Top P S → strips P S ≡ [] → All (λ s. above P s ≡ true) S × (rest P S ≡ S)
unfolding strips keep rest leave above is_up
others P [] t e = (tt, refl)
others P (r ∷ S) t e = go (diff P r) t.0 e (others P S t.1)
  where
    go : (D : Diff) → Up D → keep D (strips P S) ≡ [] → (strips P S ≡ [] → All (λ s. above P s ≡ true) S × (rest P S ≡ S))
        → ((is_up D ≡ true) × All (λ s. above P s ≡ true) S) × (leave D r (rest P S) ≡ r ∷ S)
    go (on u) t e ih = absurd (cons≢nil e)
    go (off p x) t e ih = ((rw t, (ih e).0), ap (λ l. r ∷ l) (ih e).1)

pub sort_first : (P : List ℕ) (S : List (List ℕ)) → Top P S → strips P S ≡ [] ∷ [] → sort S ≡ P ∷ sort (rest P S)
unfolding strips keep rest leave sort_on insert_on above is_up
sort_first P [] t e = cc
sort_first P (r ∷ S) t e = go (diff P r) refl t.0 e (sort_first P S t.1)
  where
    go : (D : Diff) → diff P r ≡ D → Up D → keep D (strips P S) ≡ [] ∷ [] → (strips P S ≡ [] ∷ [] → sort S ≡ P ∷ sort (rest P S))
        → insert r (sort S) ≡ P ∷ sort (leave D r (rest P S))
    go (on u) d t' e' ih =
        let o : All (λ s. above P s ≡ true) S × (rest P S ≡ S) = others P S t.1 (tail-eq_of_cons-eq e') in
        let r≡P : r ≡ P = diff_on P r u d ∙ ap (λ l. P ++ l) (head-eq_of_cons-eq e') ∙ append-nil P in
        rw (o.1, r≡P) (insert_top P (sort S) (all_sort (λ s. s) (λ s. above P s ≡ true) S o.0))
    go (off p x) d t' e' ih =
        let up : above P r ≡ true = rw (d, t') in
        rw (ih e', above_asym P r up)
