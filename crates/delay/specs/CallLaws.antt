-- What the judge's code computes is what `Delay` and `Calls` say. Assumes nothing.
use Rattle.std.specs.Prelude.{◌≡◌, ℕ, ◌+◌, ◌%◌, ◌<◌, ◌≤◌, Bool, true, false, ℤ, pos, ◌-ℤ◌, FitsSigned, nat_lt, refl}
use Rattle.std.proofs.Common.{sym, ap, ap₂, subst, ◌∙◌, arith, to_z, of_z}
use Rattle.std.specs.Int.{w64}
use Rattle.std.proofs.lemmas.Int.{to_z_pos, to_z-of_z}
use Rattle.delay.specs.OffLaws.{late, early}
use borrow.Author.Tests.{le-leb, lt-leb, ltb-true, ltb-false}
use Rattle.delay.specs.declared.Kind.{Kind}
use Rattle.delay.specs.Delay.{delay, grid, due}
use Rattle.delay.specs.Calls.{OffSaid, off_by, judge_says}

pub grid_most : (one : Bool) → grid one ≤ 84
grid_most true = omega arith
grid_most false = omega arith

-- the number that the reader's tick added to wraps to the card's
pub delay_is : (d sent heard : ℕ) → d < 4294967296 → sent < 4294967296 → (d + sent) % 4294967296 ≡ heard → d ≡ delay sent heard
delay_is d sent heard h s e = omega arith

module _ (k : Kind) (one : Bool) (sent heard d : ℕ) (e : d ≡ delay sent heard) where
  pub too_long : 2147483648 ≤ d → ◌≡◌ {A = OffSaid} (record { number = 14; off = pos 0 }) (judge_says k one sent heard)
  too_long h = rw (← e, le-leb 2147483648 d h)

  pub judged : (z : ℤ) (at : ℕ) → d < 2147483648 → at ≡ due k one d → z ≡ pos d -ℤ pos at → ◌≡◌ {A = OffSaid} (record { number = 0; off = z }) (judge_says k one sent heard)
  unfolding off_by
  judged z at h q p = rw (← e, lt-leb 2147483648 d h, ← q, p)

-- ---- the difference of two numbers of 32 bits, as the machine forms it in 64

module _ (a b : ℕ) (ha : a < 4294967296) (hb : b < 4294967296) where
  plain : to_z w64 a -ℤ to_z w64 b ≡ pos a -ℤ pos b
  plain = ap₂ ◌-ℤ◌ (to_z_pos w64 a (omega arith)) (to_z_pos w64 b (omega arith))

  plain_fits : FitsSigned w64 (pos a -ℤ pos b)
  plain_fits = go (nat_lt a b) refl
    where
      go : (t : Bool) → nat_lt a b ≡ t → FitsSigned w64 (pos a -ℤ pos b)
      go true e = let h : a < b = ltb-true a b e in rw (early a b h) (record { sfits = omega arith })
      go false e = let h : b ≤ a = ltb-false a b e in rw (late a b h) (record { sfits = omega arith })

  pub difference_fits : FitsSigned w64 (to_z w64 a -ℤ to_z w64 b)
  difference_fits = subst (FitsSigned w64) (sym plain) plain_fits

  pub difference_is : to_z w64 (of_z w64 (to_z w64 a -ℤ to_z w64 b)) ≡ pos a -ℤ pos b
  difference_is = to_z-of_z w64 _ difference_fits ∙ plain

  -- .. and as an answer holds it
  pub difference_held : (z : ℤ) → z ≡ pos a -ℤ pos b → to_z w64 (of_z w64 z) ≡ pos a -ℤ pos b
  difference_held z e = ap (λ y. to_z w64 (of_z w64 y)) e ∙ to_z-of_z w64 _ plain_fits
