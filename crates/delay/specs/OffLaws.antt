-- The difference of two natural numbers: late where the first is the greater, else early. Assumes nothing.
use Rattle.std.specs.Prelude.{◌≡◌, ℕ, zero, suc, ◌+◌, ◌-◌, ◌<◌, ◌≤◌, Bool, true, false, ℤ, pos, negsuc, ◌-ℤ◌, ◌≤ℤ◌, nat_lt, unsigned_abs, refl}
use Rattle.std.proofs.Common.{sym, ap, ◌∙◌, arith, le→leb, lt-ltb, le-ltb, ltb-true, ltb-false}

pub late : (a b : ℕ) → b ≤ a → pos a -ℤ pos b ≡ pos (a - b)
late a zero h = ap pos (omega arith)
late a (suc b) h = rw (le-ltb a (suc b) h)

pub early : (a b : ℕ) → a < b → pos a -ℤ pos b ≡ negsuc (b - suc a)
early a zero h = absurd (omega arith)
early a (suc b) h = rw (lt-ltb a (suc b) h)

-- how far apart two numbers are
abbrev pub apart : ℕ → ℕ → ℕ
apart a b = (a - b) + (b - a)

module _ (a b : ℕ) where
  -- a fact of the difference, by the two cases
  cases : (P : ℤ → Type 0) → (b ≤ a → P (pos (a - b))) → (a < b → P (negsuc (b - suc a))) → P (pos a -ℤ pos b)
  cases P x y = go (nat_lt a b) refl
    where
      go : (t : Bool) → nat_lt a b ≡ t → P (pos a -ℤ pos b)
      go true e = rw (early a b (ltb-true a b e)) (y (ltb-true a b e))
      go false e = rw (late a b (ltb-false a b e)) (x (ltb-false a b e))

  pub apart_is : unsigned_abs (pos a -ℤ pos b) ≡ apart a b
  apart_is = cases (λ z. unsigned_abs z ≡ apart a b) (λ h. omega arith) (λ h. omega arith)

  pub zero_same : pos a -ℤ pos b ≡ pos 0 → a ≡ b
  zero_same e = let h : apart a b ≡ 0 = sym apart_is ∙ ap unsigned_abs e in omega arith

  -- no more than n + 1 early; no more than n late
  pub at_least : (n : ℕ) → b ≤ a + suc n → negsuc n ≤ℤ (pos a -ℤ pos b)
  at_least n l = cases (λ z. negsuc n ≤ℤ z) (λ h. record { le = tt }) (λ h. record { le = le→leb (b - suc a) n (omega arith) })

  pub at_most : (n : ℕ) → a ≤ b + n → (pos a -ℤ pos b) ≤ℤ pos n
  at_most n l = cases (λ z. z ≤ℤ pos n) (λ h. record { le = le→leb (a - b) n (omega arith) }) (λ h. record { le = tt })
