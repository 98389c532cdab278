-- The positions past where two rows first differ, at which the second first differs from others. Assumes nothing.
use mathlib.Core.Path.{◌≡◌, refl, sym, ap, ap₂, ◌∙◌}
use Prim.Native.Nat.{ℕ, zero, suc, ◌≤◌}
use mathlib.Core.Bool.{Bool, true, false, ◌&&◌}
use mathlib.Core.List.{List, [], ◌∷◌, ◌++◌}
use lib.ListN.{length}
use lib.Dec.{ltb}
use borrow.Author.Tests.{lt-ltb, le-ltb, ltb-true, ltb-false}
use native.Mathlib.Omega.{arith}
use Rattle.rows.specs.Rows.{any}
use Rattle.uid.specs.Order.{off, diff, one, count, parts_at, parts}
use Rattle.uid.specs.OrderLaws.{diff_head}
use Rattle.uid.specs.PartsLaws.{count_cong, parts_self}
use Rattle.sweep_rules.proofs.Abstract.{strips, rest, sort, Top}
use Rattle.sweep_rules.proofs.First.{pull, strips_nil, strips_cons, parts_append, parts_later}
use Rattle.sweep_rules.proofs.Sort.{sort_first, parts_sort}
use Rattle.memory_rules.specs.Count.{is_past, parts_past}

pub count_suc : (n : ℕ) (f : ℕ → Bool) → f 0 ≡ false → count (suc n) f ≡ count n (λ q. f (suc q))
unfolding count one
count_suc n f e = rw e (omega arith)

pub ltb_suc : (p q : ℕ) → ltb (suc p) (suc q) ≡ ltb p q
ltb_suc p q = go (ltb p q) refl
  where
    go : (b : Bool) → ltb p q ≡ b → ltb (suc p) (suc q) ≡ b
    go true e = lt-ltb (suc p) (suc q) (omega (arith, ltb-true p q e))
    go false e = le-ltb (suc p) (suc q) (omega (arith, ltb-false p q e))

-- those behind B
past_from : (p : ℕ) (B Y : List ℕ) (S : List (List ℕ)) → length B ≡ suc p
    → count (length (B ++ Y)) (λ q. ltb p q && any (λ r. parts_at q (diff (B ++ Y) r)) S) ≡ parts Y (strips B S)
unfolding parts
past_from p [] Y S h = absurd (omega arith)
past_from zero (x ∷ []) Y S h =
    count_suc (length Y) (λ q. ltb 0 q && any (λ r. parts_at q (diff (x ∷ Y) r)) S) refl
    ∙ count_cong (length Y) (λ q l. rw (lt-ltb 0 (suc q) (omega arith)) (parts_later x Y q S))
    ∙ ap (parts Y) (sym (strips_cons x [] S ∙ strips_nil (pull x S)))
past_from zero (x ∷ y ∷ B) Y S h = absurd (omega arith)
past_from (suc p) (x ∷ B) Y S h =
    count_suc (length (B ++ Y)) (λ q. ltb (suc p) q && any (λ r. parts_at q (diff (x ∷ B ++ Y) r)) S) (rw (le-ltb (suc p) 0 (omega arith)))
    ∙ count_cong (length (B ++ Y)) (λ q l. ap₂ ◌&&◌ (ltb_suc p q) (parts_later x (B ++ Y) q S))
    ∙ past_from p B Y (pull x S) (omega arith)
    ∙ ap (parts Y) (sym (strips_cons x B S))

pub past_is : (v B Y : List ℕ) (S : List (List ℕ)) (p x : ℕ) → diff v (B ++ Y) ≡ off p x → length B ≡ suc p → parts_past v (B ++ Y) S ≡ parts Y (strips B S)
unfolding parts_past is_past
past_is v B Y S p x d h = rw d (past_from p B Y S h)

-- no more than all
one_and : (a b : Bool) → one (a && b) ≤ one b
unfolding one
one_and true b = omega arith
one_and false true = omega arith
one_and false false = omega arith

count_and : (n : ℕ) (f g : ℕ → Bool) → count n (λ q. f q && g q) ≤ count n g
unfolding count
count_and zero f g = omega arith
count_and (suc n) f g = omega (arith, one_and (f 0) (g 0), count_and n (λ q. f (suc q)) (λ q. g (suc q)))

pub past_le : (v P : List ℕ) (S : List (List ℕ)) → parts_past v P S ≤ parts P S
unfolding parts_past parts
past_le v P S = count_and (length P) (is_past (diff v P)) (λ q. any (λ r. parts_at q (diff P r)) S)

-- ---- the rows that are left, sorted, have the same positions

parts_head : (B Y : List ℕ) (l : List (List ℕ)) → parts B ((B ++ Y) ∷ l) ≡ parts B l
unfolding parts any parts_at
parts_head B Y l = count_cong (length B) (λ q h. rw (diff_head B Y))

module _ (B Y : List ℕ) (S : List (List ℕ)) (t : Top (B ++ Y) S) (e : strips (B ++ Y) S ≡ [] ∷ []) where
  P : List ℕ
  P = B ++ Y

  l : List (List ℕ)
  l = sort (rest P S)

  first : sort S ≡ P ∷ l
  unfolding P l
  first = sort_first P S t e

  whole_same : parts P S ≡ parts P l
  whole_same = sym (parts_sort P S) ∙ ap (parts P) first ∙ parts_self P l

  head_same : parts B S ≡ parts B l
  unfolding P
  head_same = sym (parts_sort B S) ∙ ap (parts B) first ∙ parts_head B Y l

  pub past_same : parts Y (strips B S) ≡ parts Y (strips B (sort (rest (B ++ Y) S)))
  unfolding P l
  past_same = omega (arith, whole_same, head_same, parts_append B Y S, parts_append B Y l)
