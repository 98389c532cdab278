-- Laws of N and its code in PARAM. Assumes nothing.
use Rattle.std.specs.Prelude.{◌≡◌, refl, ℕ, ◌≤◌, ◌<◌, ◌%◌, Bool, true, false, cond, ◌||◌, eqb, leb}
use Rattle.std.proofs.lemmas.Bool.{false≢true}
use Rattle.std.proofs.Common.{eqb-true, arith}
use Rattle.selection_b.specs.TypeB.{is_slots, code_of, param}
use Rattle.selection_b.specs.TakenB.{slots_of}

-- what holds of 1, 2, 4, 8 and 16 holds of N
pub slots_cases : (F : ℕ → Type 0) (n : ℕ) → is_slots n ≡ true → F 1 → F 2 → F 4 → F 8 → F 16 → F n
unfolding is_slots
slots_cases F n e f₁ f₂ f₄ f₈ f₁₆ = go (eqb n 1) refl (eqb n 2) refl (eqb n 4) refl (eqb n 8) refl (eqb n 16) refl e
  where
    at : (k : ℕ) → eqb n k ≡ true → F k → F n
    at k e f = rw (eqb-true n k e) f

    go : (a : Bool) → eqb n 1 ≡ a → (b : Bool) → eqb n 2 ≡ b → (c : Bool) → eqb n 4 ≡ c → (d : Bool) → eqb n 8 ≡ d → (g : Bool) → eqb n 16 ≡ g
        → (a || b || c || d || g) ≡ true → F n
    go true p b q c r d s g t e = at 1 p f₁
    go false p true q c r d s g t e = at 2 q f₂
    go false p false q true r d s g t e = at 4 r f₄
    go false p false q false r true s g t e = at 8 s f₈
    go false p false q false r false s true t e = at 16 t f₁₆
    go false p false q false r false s false t e = absurd (false≢true e)

-- PARAM of a request
pub record Param (wake : Bool) (n : ℕ) : Type 0 where
  pub small : param wake n < 16
  pub coded : param wake n % 8 ≤ 4
  pub slots : slots_of (param wake n % 8) ≡ n
  pub wakes : leb 8 (param wake n) ≡ wake

pub param_is : (wake : Bool) (n : ℕ) → is_slots n ≡ true → Param wake n
unfolding param code_of slots_of
param_is true n e = slots_cases (Param true) n e (record { small = omega arith; coded = omega arith; slots = refl; wakes = refl }) (record { small = omega arith; coded = omega arith; slots = refl; wakes = refl }) (record { small = omega arith; coded = omega arith; slots = refl; wakes = refl }) (record { small = omega arith; coded = omega arith; slots = refl; wakes = refl }) (record { small = omega arith; coded = omega arith; slots = refl; wakes = refl })
param_is false n e = slots_cases (Param false) n e (record { small = omega arith; coded = omega arith; slots = refl; wakes = refl }) (record { small = omega arith; coded = omega arith; slots = refl; wakes = refl }) (record { small = omega arith; coded = omega arith; slots = refl; wakes = refl }) (record { small = omega arith; coded = omega arith; slots = refl; wakes = refl }) (record { small = omega arith; coded = omega arith; slots = refl; wakes = refl })

pub code_most : (n : ℕ) → code_of n ≤ 4
unfolding code_of
code_most n = go (eqb n 1) (eqb n 2) (eqb n 4) (eqb n 8)
  where
    go : (a b c d : Bool) → cond a 0 (cond b 1 (cond c 2 (cond d 3 4))) ≤ 4
    go true b c d = omega arith
    go false true c d = omega arith
    go false false true d = omega arith
    go false false false true = omega arith
    go false false false false = omega arith

pub slots_least : (n : ℕ) → is_slots n ≡ true → 1 ≤ n
slots_least n e = slots_cases (λ n. 1 ≤ n) n e (omega arith) (omega arith) (omega arith) (omega arith) (omega arith)

pub slots_most : (n : ℕ) → is_slots n ≡ true → n ≤ 16
slots_most n e = slots_cases (λ n. n ≤ 16) n e (omega arith) (omega arith) (omega arith) (omega arith) (omega arith)
