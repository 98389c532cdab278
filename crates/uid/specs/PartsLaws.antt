-- Laws of the number of positions at which a row first differs from others. Assumes nothing.
use Rattle.std.specs.Prelude.{◌≡◌, refl, ℕ, zero, suc, ◌+◌, ◌<◌, ◌≤◌, Bool, true, false, ◌||◌, List, [], ◌∷◌, length, eqb}
use Rattle.std.proofs.Common.{ap, ap₂, ◌∙◌, sym, append-nil, arith}
use Rattle.std.proofs.Math.Dec.{eqb-suc-zero, eqb-zero-suc, eqb-suc-suc}
use Rattle.rows.specs.Rows.{any}
use Rattle.uid.specs.Order.{Diff, on, off, diff, one, count, parts_at, parts}
use Rattle.uid.specs.OrderLaws.{diff_head}

pub count_cong : (n : ℕ) {f g : ℕ → Bool} → ((p : ℕ) → p < n → f p ≡ g p) → count n f ≡ count n g
unfolding count
count_cong zero h = refl
count_cong (suc n) h = ap₂ (λ b k. one b + k) (h 0 (omega arith)) (count_cong n (λ p l. h (suc p) (omega arith)))

pub parts_nil : (S : List (List ℕ)) → parts [] S ≡ 0
unfolding parts count
parts_nil S = refl

pub parts_self : (P : List ℕ) (l : List (List ℕ)) → parts P (P ∷ l) ≡ parts P l
unfolding parts any parts_at
parts_self P l = count_cong (length P) (λ q h. rw (self P))
  where
    self : (P : List ℕ) → diff P P ≡ on []
    self P = ap (diff P) (sym (append-nil P)) ∙ diff_head P []

-- ---- at most one for each of the others

one_or : (a b : Bool) → one (a || b) ≤ one a + one b
unfolding one
one_or true b = omega arith
one_or false b = omega arith

count_or : (n : ℕ) (f g : ℕ → Bool) → count n (λ q. f q || g q) ≤ count n f + count n g
unfolding count
count_or zero f g = omega arith
count_or (suc n) f g = omega (arith, one_or (f 0) (g 0), count_or n (λ p. f (suc p)) (λ p. g (suc p)))

count_none : (n : ℕ) → count n (λ q. false) ≡ 0
unfolding count one
count_none zero = refl
count_none (suc n) = rw (count_none n)

-- one position
count_at : (n p : ℕ) → count n (λ q. eqb p q) ≤ 1
unfolding count one
count_at zero p = omega arith
count_at (suc n) zero = rw (count_cong n (λ q h. eqb-zero-suc q), count_none) (omega arith)
count_at (suc n) (suc p) = rw (eqb-suc-zero, count_cong n (λ q h. eqb-suc-suc p q)) (omega (arith, count_at n p))

count_parts : (n : ℕ) (D : Diff) → count n (λ q. parts_at q D) ≤ 1
unfolding parts_at
count_parts n (on t) = rw count_none (omega arith)
count_parts n (off p x) = count_at n p

pub parts_le : (P : List ℕ) (S : List (List ℕ)) → parts P S ≤ length S
unfolding parts any
parts_le P [] = rw count_none (omega arith)
parts_le P (r ∷ S) =
    omega (arith, count_or (length P) (λ q. parts_at q (diff P r)) (λ q. any (λ r. parts_at q (diff P r)) S), count_parts (length P) (diff P r), parts_le P S)
