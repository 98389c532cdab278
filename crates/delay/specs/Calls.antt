-- The judge's answers, in the paper's numbers: "The answer is how far the card was from due, early below zero and late above it. Delays, taken modulo
-- 2^32, of 2^31 and more are refused with 14".
use Rattle.std.specs.Prelude.{ℕ, Bool, cond, ℤ, pos, ◌-ℤ◌, nat_le, Result, Ok, Err}
use Rattle.delay.specs.declared.Kind.{Kind}
use Rattle.delay.specs.declared.TooLong.{TooLong}
use Rattle.delay.specs.Delay.{delay, due}

-- the refusal's number, 0 where nothing is declined, and how far from due, 0 at a refusal. (crate refusal's `Said` holds numbers without a sign)
pub record OffSaid : Type 0 where
  pub number : ℕ
  pub off : ℤ

abbrev pub judged_says : Result ℤ TooLong → OffSaid
judged_says (Ok z) = record { number = 0; off = z }
judged_says (Err e) = record { number = 14; off = pos 0 }

abbrev pub number_of : Result ℤ TooLong → ℕ
number_of j = (judged_says j).number

-- measured less due
unfoldable pub off_by : Kind → Bool → ℕ → ℤ
off_by k one d = pos d -ℤ pos (due k one d)

abbrev pub judge_says : Kind → Bool → ℕ → ℕ → OffSaid
judge_says k one sent heard =
    cond (nat_le 2147483648 (delay sent heard)) (record { number = 14; off = pos 0 }) (record { number = 0; off = off_by k one (delay sent heard) })
