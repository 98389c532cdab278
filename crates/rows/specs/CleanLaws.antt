-- Laws of collided bits in a row, `clean` and `next`. Assumes nothing.
use Rattle.std.specs.Prelude.{◌≡◌, refl, ℕ, zero, suc, ◌≤◌, ◌<◌, Bool, true, false, cond, List, [], ◌∷◌, ◌++◌, length, take, eqb, ltb}
use Rattle.std.proofs.Common.{ap, true≢false, eq-eqb, arith}
use Rattle.std.proofs.lemmas.Bool.{false≢true}
use Rattle.rows.specs.Rows.{clean, next, Bits, is_nil}

pub eqb_same : (x : ℕ) → eqb x x ≡ true
eqb_same x = eq-eqb x x refl

pub bit_two : (x : ℕ) → x < 2 → ltb 1 x ≡ false
bit_two zero h = refl
bit_two (suc zero) h = refl
bit_two (suc (suc x)) h = absurd (omega arith)

pub not_nil : (h : List ℕ) → 1 ≤ length h → is_nil h ≡ false
unfolding is_nil
not_nil [] e = absurd (omega arith)
not_nil (x ∷ h) e = refl

pub bits_clean : (x : List ℕ) → Bits x → clean x ≡ true
unfolding clean
bits_clean [] b = refl
bits_clean (x ∷ r) b = rw (bit_two x b.0) (bits_clean r b.1)

pub clean_append : (K H : List ℕ) → Bits K → clean (K ++ H) ≡ clean H
unfolding clean
clean_append [] H b = refl
clean_append (x ∷ K) H b = rw (bit_two x b.0) (clean_append K H b.1)

pub next_append : (K H : List ℕ) → Bits K → next (K ++ H) ≡ K ++ next H
unfolding next
next_append [] H b = refl
next_append (x ∷ K) H b = rw (bit_two x b.0) (ap (λ l. x ∷ l) (next_append K H b.1))

pub next_clean : (h : List ℕ) → clean h ≡ true → next h ≡ h
unfolding next clean
next_clean [] e = refl
next_clean (x ∷ h) e = go (ltb 1 x) e (next_clean h)
  where
    go : (b : Bool) → cond b false (clean h) ≡ true → (clean h ≡ true → next h ≡ h) → cond b (1 ∷ []) (x ∷ next h) ≡ x ∷ h
    go true e ih = absurd (false≢true e)
    go false e ih = ap (λ l. x ∷ l) (ih e)

pub next_take : (m : ℕ) (h : List ℕ) → clean (take m h) ≡ false → next h ≡ next (take m h)
unfolding clean next
next_take zero h e = absurd (true≢false e)
next_take (suc m) [] e = absurd (true≢false e)
next_take (suc m) (x ∷ h) e = go (ltb 1 x) e (next_take m h)
  where
    go : (b : Bool) → cond b false (clean (take m h)) ≡ false → (clean (take m h) ≡ false → next h ≡ next (take m h)) → cond b (1 ∷ []) (x ∷ next h) ≡ cond b (1 ∷ []) (x ∷ next (take m h))
    go true e ih = refl
    go false e ih = ap (λ l. x ∷ l) (ih e)
