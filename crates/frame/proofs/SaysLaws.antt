-- What the calls answer, in the numbers of document 01's table: which number is given when. Assumes nothing.
use Rattle.std.specs.Prelude.{◌≡◌, refl, ℕ, ◌+◌, ◌-◌, ◌*◌, ◌/◌, ◌≤◌, ◌<◌, Bool, true, false, cond, List, [], ◌∷◌, length, take, ltb, Err}
use Rattle.std.proofs.Common.{lt-ltb, le-ltb, arith}
use Rattle.limits.specs.Limits.{most_bytes}
use Rattle.rows.specs.Rows.{clean, same}
use Rattle.crc.specs.Crc.{with_crc}
use Rattle.refusal.specs.Refusal.{giving, declining_at, declining, decline_if, number_says}
use Rattle.refusal.specs.declared.Refusal.TheVariants.{Room}
use Rattle.frame.specs.Frame.{whole_bytes, first_wrong, faulty, read_frame, without_crc, Verdict, Good, Fault}
use Rattle.frame.specs.Calls.{write_says, write_short_says, verdict_says, read_says, received, read_answer}

-- ---- 1, "lent room shorter than asked", and only then

pub no_room : (more room n : ℕ) → room / 9 < n + more → write_says more room n ≡ declining 1
no_room more room n h = rw (lt-ltb room (9 * (n + more)) (omega arith))

pub has_room : (more room n : ℕ) → n + more ≤ room / 9 → write_says more room n ≡ giving (9 * (n + more) ∷ [])
has_room more room n h = rw (le-ltb room (9 * (n + more)) (omega arith))

pub short_no_room : (room : ℕ) → room < 7 → write_short_says room ≡ declining 1
short_no_room room h = rw (lt-ltb room 7 h)

pub short_has_room : (room : ℕ) → 7 ≤ room → write_short_says room ≡ giving (7 ∷ [])
short_has_room room h = rw (le-ltb room 7 h)

pub read_no_room : (room : ℕ) (v : Verdict) → room < most_bytes → read_says room v ≡ declining 1
read_no_room room v h = rw (lt-ltb room most_bytes h)

pub read_has_room : (room : ℕ) (v : Verdict) → most_bytes ≤ room → read_says room v ≡ verdict_says v
read_has_room room v h = rw (le-ltb room most_bytes h)

-- ---- "A received frame is tested 7, 2, 8, 3, 4": the first test that applies wins

module _ (least most : ℕ) (h : List ℕ) where
  pub says_length : whole_bytes least most (length h) ≡ false → verdict_says (read_frame least most h) ≡ declining 2
  unfolding read_frame
  says_length w = rw w

  pub says_collision : whole_bytes least most (length h) ≡ true → clean h ≡ false → verdict_says (read_frame least most h) ≡ declining 8
  unfolding read_frame
  says_collision w c = rw (w, c)

  pub says_parity : whole_bytes least most (length h) ≡ true → clean h ≡ true → faulty (length h / 9) h ≡ true
      → verdict_says (read_frame least most h) ≡ declining_at 3 (first_wrong (length h / 9) h)
  unfolding read_frame
  says_parity w c f = rw (w, c, f)

pub says_crc : (l : List ℕ) → same l (with_crc (take (length l - 2) l)) ≡ false → verdict_says (without_crc l) ≡ declining 4
unfolding without_crc
says_crc l e = rw e

-- ---- what the calls of our own crates answer, in these numbers

pub says_read : (room : ℕ) (v : Verdict) → number_says (read_answer room v) ≡ read_says room v
unfolding read_answer
says_read room v = go (ltb room most_bytes) v
  where
    go : (b : Bool) (v : Verdict) → number_says (cond b (Err Room) (received v)) ≡ decline_if b 1 (verdict_says v)
    go true v = refl
    go false (Good l) = refl
    go false (Fault e) = refl
