-- Laws of the bits of a number, over the width. Assumes nothing.
use Rattle.std.specs.Prelude.{◌≡◌, refl, ℕ, zero, suc, ◌+◌, ◌-◌, ◌*◌, ◌/◌, ◌%◌, ◌^◌, ◌≤◌, ◌<◌, List, [], ◌∷◌, length, replicate}
use Rattle.std.proofs.Common.{ap, not-suc-le-zero, arith}
use Rattle.rows.specs.Rows.{Bits, fill}
use Rattle.parity.specs.Bits.{bits_of, unbits}

pub length_bits : (n b : ℕ) → length (bits_of n b) ≡ n
unfolding bits_of
length_bits zero b = refl
length_bits (suc n) b = ap suc (length_bits n (b / 2))

pub bits_bits : (n b : ℕ) → Bits (bits_of n b)
unfolding bits_of
bits_bits zero b = tt
bits_bits (suc n) b = (omega arith, bits_bits n (b / 2))

-- a number of n bits is the number of its bits
pub unbits_bits : (n b : ℕ) → b < 2 ^ n → unbits (bits_of n b) ≡ b
unfolding unbits bits_of
unbits_bits zero b h = omega arith
unbits_bits (suc n) b h = omega (arith, unbits_bits n (b / 2) (omega arith))

zero_bits : (n : ℕ) → bits_of n 0 ≡ replicate n 0
unfolding bits_of
zero_bits zero = refl
zero_bits (suc n) = ap (λ l. 0 ∷ l) (zero_bits n)

-- the bits of a row's number: the row, zeros behind
pub bits_unbits : (n : ℕ) (d : List ℕ) → Bits d → length d ≤ n → bits_of n (unbits d) ≡ fill n d
unfolding bits_of unbits fill
bits_unbits n [] b h = let e : n - 0 ≡ n = omega arith in rw e (zero_bits n)
bits_unbits zero (x ∷ d) b h = absurd (not-suc-le-zero h)
bits_unbits (suc n) (x ∷ d) b h =
    let e₁ : (x + 2 * unbits d) % 2 ≡ x = omega (arith, b.0) in
    let e₂ : (x + 2 * unbits d) / 2 ≡ unbits d = omega (arith, b.0) in
    let e₃ : suc n - suc (length d) ≡ n - length d = omega arith in
    rw (e₁, e₂, e₃) (ap (λ l. x ∷ l) (bits_unbits n d b.1 (omega arith)))

-- the number of n bits is below 2 ^ n
pub unbits_lt : (n : ℕ) (d : List ℕ) → Bits d → length d ≤ n → unbits d < 2 ^ n
unfolding unbits
unbits_lt n [] b h = pos n
  where
    pos : (n : ℕ) → 0 < 2 ^ n
    pos zero = omega arith
    pos (suc n) = omega (arith, pos n)
unbits_lt zero (x ∷ d) b h = absurd (not-suc-le-zero h)
unbits_lt (suc n) (x ∷ d) b h = omega (arith, b.0, unbits_lt n d b.1 (omega arith))
