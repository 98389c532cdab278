-- No difference is the number of the refusal. Assumes nothing.
use Rattle.std.specs.Prelude.{◌≡◌, refl, Bool, true, false, ℕ, ◌+◌, ◌-◌, ◌<◌, pos, ◌-ℤ◌, nat_abs, leb}
use Rattle.std.proofs.Common.{sym, ap, ◌∙◌, arith, leb-false}
use Rattle.delay.specs.declared.Kind.{Kind}
use Rattle.delay.specs.declared.Kind.TheVariants.{Reqa, Wupa, Anticollision, Select, Other}
use Rattle.delay.specs.Delay.{delay, due}
use Rattle.delay.specs.Calls.{judge_says, off_by}
use Rattle.delay.specs.OffLaws.{apart_is}
use Rattle.lacrivosum.specs.Delays.{no_delay, delay_number}

due_most : (k : Kind) (one : Bool) (d : ℕ) → d < 2147483648 → due k one d < 4294967296
due_most Reqa true d h = omega arith
due_most Reqa false d h = omega arith
due_most Wupa true d h = omega arith
due_most Wupa false d h = omega arith
due_most Anticollision true d h = omega arith
due_most Anticollision false d h = omega arith
due_most Select true d h = omega arith
due_most Select false d h = omega arith
due_most Other true d h = omega arith
due_most Other false d h = omega arith

no_difference : (a b : ℕ) → a < 4294967296 → b < 4294967296 → pos a -ℤ pos b ≡ no_delay → ⊥
no_difference a b h g e =
    let k : (a - b) + (b - a) ≡ 9223372036854775808 = sym (apart_is a b) ∙ ap nat_abs e in
    absurd (omega arith)

off_told : (k : Kind) (one : Bool) (d : ℕ) → d < 2147483648 → off_by k one d ≡ no_delay → ⊥
unfolding off_by
off_told k one d h e = no_difference d (due k one d) (omega arith) (due_most k one d h) e

-- where the answer is that number, 14 was the refusal
pub told_apart : (k : Kind) (one : Bool) (sent heard : ℕ) → delay_number (judge_says k one sent heard) ≡ no_delay → (judge_says k one sent heard).number ≡ 14
told_apart k one sent heard = go (leb 2147483648 (delay sent heard)) refl
  where
    go : (t : Bool) → leb 2147483648 (delay sent heard) ≡ t → delay_number (judge_says k one sent heard) ≡ no_delay → (judge_says k one sent heard).number ≡ 14
    go true e = rw e (λ _. refl)
    go false e = rw e (λ z. absurd (off_told k one (delay sent heard) (leb-false 2147483648 (delay sent heard) e) z))
