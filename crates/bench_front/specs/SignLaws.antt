-- A signed number's distance from zero is a number without sign. Assumes nothing.
use Rattle.std.specs.Prelude.{◌≡◌, refl, true, false, ℕ, zero, suc, ◌+◌, ◌≤◌, ◌<◌, T, ltb, ℤ, pos, negsuc, ◌-ℤ◌, nat_abs}
use Rattle.std.proofs.Common.{sym, subst, true≢false, arith, Fits, SFits, to_z, of_z, le-ltb, ltb-false}
use Rattle.std.specs.Int.Signed.{lt_z, non_neg}
use Rattle.std.specs.Int.{w64}
use Rattle.std.proofs.lemmas.Int.{to_z-of_z}

-- a number as the machine reads it back from its bits
abbrev pub read_back : ℤ → ℤ
read_back z = to_z w64 (of_z w64 z)

pub read_fits : (z : ℤ) → SFits w64 z → SFits w64 (read_back z)
read_fits z f = subst (SFits w64) (sym (to_z-of_z w64 z f)) f

-- not below zero
pub not_below : (z : ℤ) → SFits w64 z → lt_z z (pos 0) ≡ false → T (non_neg z) × Fits w64 (nat_abs z)
not_below (pos n) f h = (tt, record { fits = omega (arith, f.sfits) })
not_below (negsuc n) f h = absurd (true≢false h)

-- not above it, and not too far below: less is nothing than zero
pub less_fits : (z : ℤ) → lt_z z (negsuc 4294967295) ≡ false → lt_z (pos 0) z ≡ false → SFits w64 (pos 0 -ℤ z)
less_fits (pos zero) h k = record { sfits = omega arith }
less_fits (pos (suc n)) h k = absurd (omega (arith, ltb-false 0 (suc n) k))
less_fits (negsuc n) h k = record { sfits = omega (arith, ltb-false 4294967295 n h) }

less_not_below : (z : ℤ) → lt_z (pos 0) z ≡ false → lt_z (pos 0 -ℤ z) (pos 0) ≡ false
less_not_below (pos zero) k = refl
less_not_below (pos (suc n)) k = absurd (omega (arith, ltb-false 0 (suc n) k))
less_not_below (negsuc n) k = le-ltb (0 + suc n) 0 (omega arith)

pub less : (z : ℤ) → lt_z z (negsuc 4294967295) ≡ false → lt_z (pos 0) z ≡ false
    → T (non_neg (read_back (pos 0 -ℤ z))) × Fits w64 (nat_abs (read_back (pos 0 -ℤ z)))
less z h k =
    let f : SFits w64 (pos 0 -ℤ z) = less_fits z h k in
    subst (λ y. T (non_neg y) × Fits w64 (nat_abs y)) (sym (to_z-of_z w64 (pos 0 -ℤ z) f)) (not_below (pos 0 -ℤ z) f (less_not_below z k))
