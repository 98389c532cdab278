-- What is known of a record that was read at a place of a log: its parts stand within the log, one behind the other. Assumes nothing.
use Rattle.std.specs.Prelude.{◌≡◌, ℕ, zero, suc, ◌+◌, ◌*◌, ◌≤◌, ◌<◌, Bool, List, length, get_or, leb, ltb}
use Rattle.std.proofs.Math.Path.{refl}
use Rattle.std.proofs.Common.{sym}
use native.Mathlib.Omega.{arith}
use Rattle.std.proofs.Math.Bool.{true, false, cond}
use Rattle.std.proofs.lemmas.Bool.{false≢true}
use Rattle.std.proofs.Math.Dec.{eqb, eqb→eq}
use borrow.Author.Tests.{ltb-false, eqb-false}
use Rattle.air_log.specs.Calls.{row_size}
use Rattle.air_log.specs.Reading.{row_at, fill_at, zeros, apart, good_row, good_marks, rows_size, collided_of, record_of, kind_of, zero_bit, bit_count, after_header, record_at}
use Rattle.air_log.specs.declared.Record.{Record}
use Rattle.air_log.specs.declared.Record.TheVariants.{Sent, Clean, Collided, Silence, End, Cut, Malformed}

-- ---- a record of a kind k with n bits, behind whose header the rows start at a place

-- one row
pub record OneRow (l : List ℕ) (at k n : ℕ) (kind start bits next : ℕ) : Type 0 where
  pub is_kind : k ≡ kind
  pub is_start : start ≡ at
  pub is_bits : bits ≡ n
  pub is_next : next ≡ at + row_size n
  pub inside : at + row_size n ≤ length l
  pub some : 0 < n
  pub filled : zeros (fill_at l at n) ≡ true

-- a row and its marks
pub record TwoRows (l : List ℕ) (at k n : ℕ) (start marks bits next : ℕ) : Type 0 where
  pub is_kind : k ≡ 2
  pub is_start : start ≡ at
  pub is_marks : marks ≡ at + row_size n
  pub is_bits : bits ≡ n
  pub is_next : next ≡ at + 2 * row_size n
  pub inside : at + 2 * row_size n ≤ length l
  pub some : 0 < n
  pub filled : zeros (fill_at l at n) ≡ true
  pub struck : zeros (row_at l (at + row_size n) n) ≡ false
  pub held : apart (row_at l at n) (row_at l (at + row_size n) n) ≡ true
  pub marks_filled : zeros (fill_at l (at + row_size n) n) ≡ true

pub record NoRow (l : List ℕ) (at k n : ℕ) (next : ℕ) : Type 0 where
  pub is_kind : k ≡ 3
  pub none : n ≡ 0
  pub is_next : next ≡ at
  pub inside : at ≤ length l

abbrev pub Rows : List ℕ → ℕ → ℕ → ℕ → Record → Type 0
Rows l at k n (Sent start bits next) = OneRow l at k n 0 start bits next
Rows l at k n (Clean start bits next) = OneRow l at k n 1 start bits next
Rows l at k n (Collided start marks bits next) = TwoRows l at k n start marks bits next
Rows l at k n (Silence next) = NoRow l at k n next
Rows l at k n End = Unit {0}
Rows l at k n Cut = Unit {0}
Rows l at k n Malformed = Unit {0}

-- a number that is none of three is the fourth
last_kind : (k : ℕ) → k < 4 → eqb k 3 ≡ false → eqb k 2 ≡ false → eqb k 1 ≡ false → k ≡ 0
last_kind zero h a b c = refl
last_kind (suc zero) h a b c = absurd (false≢true (sym c))
last_kind (suc (suc zero)) h a b c = absurd (false≢true (sym b))
last_kind (suc (suc (suc zero))) h a b c = absurd (false≢true (sym a))
last_kind (suc (suc (suc (suc k)))) h a b c = absurd (omega arith)

module _ (l : List ℕ) (at n : ℕ) where
  -- a good row
  good : good_row l at n ≡ true → (0 < n) × (zeros (fill_at l at n) ≡ true)
  unfolding good_row
  good h = go (eqb n 0) refl h
    where
      go : (b : Bool) → eqb n 0 ≡ b → cond b false (zeros (fill_at l at n)) ≡ true → (0 < n) × (zeros (fill_at l at n) ≡ true)
      go true e h = absurd (false≢true h)
      go false e h = let z : n ≡ 0 → ⊥ = eqb-false n 0 e in (omega arith, h)

  marks_say : (m : ℕ) → good_marks l at m n ≡ true
      → (zeros (row_at l m n) ≡ false) × (apart (row_at l at n) (row_at l m n) ≡ true) × (zeros (fill_at l m n) ≡ true)
  unfolding good_marks
  marks_say m h = go (zeros (row_at l m n)) (apart (row_at l at n) (row_at l m n)) (zeros (fill_at l m n)) h
    where
      go : (a b c : Bool) → cond a false (cond b c false) ≡ true → (a ≡ false) × (b ≡ true) × (c ≡ true)
      go true b c h = absurd (false≢true h)
      go false false c h = absurd (false≢true h)
      go false true c h = (refl, refl, h)

  module _ (k : ℕ) (small : k < 4) (room : at + rows_size k n ≤ length l) where
    rows_of : Rows l at k n (record_of l at k n)
    unfolding record_of collided_of
    rows_of = go (eqb k 3) (good_row l at n) (eqb k 2) (eqb k 1) refl refl refl refl
      where
        silent : (b : Bool) → eqb n 0 ≡ b → eqb k 3 ≡ true → Rows l at k n (cond b (Silence at) Malformed)
        silent true e t = record { is_kind = eqb→eq k 3 (rw t tt); none = eqb→eq n 0 (rw e tt); is_next = refl; inside = omega arith }
        silent false e t = tt

        collided : (b : Bool) → good_marks l at (at + row_size n) n ≡ b → good_row l at n ≡ true → eqb k 2 ≡ true
            → Rows l at k n (cond b (Collided at (at + row_size n) n (at + 2 * row_size n)) Malformed)
        collided true e g t =
            let m = marks_say (at + row_size n) e in
            let q : at + 2 * row_size n ≤ length l = rw t at room in
            record { is_kind = eqb→eq k 2 (rw t tt); is_start = refl; is_marks = refl; is_bits = refl; is_next = refl; inside = q; some = (good g).0; filled = (good g).1; struck = m.0; held = m.1; marks_filled = m.2 }
        collided false e g t = tt

        go : (a g b d : Bool) → eqb k 3 ≡ a → good_row l at n ≡ g → eqb k 2 ≡ b → eqb k 1 ≡ d
            → Rows l at k n (cond a (cond (eqb n 0) (Silence at) Malformed)
            (cond g (cond b (cond (good_marks l at (at + row_size n) n) (Collided at (at + row_size n) n (at + 2 * row_size n)) Malformed) (cond d (Clean at n (at + row_size n)) (Sent at n (at + row_size n)))) Malformed))
        go true g b d x y z u = silent (eqb n 0) refl x
        go false false b d x y z u = tt
        go false true true d x y z u = collided (good_marks l at (at + row_size n) n) refl y z
        go false true false true x y z u =
            let q : at + row_size n ≤ length l = rw z at room in
            record { is_kind = eqb→eq k 1 (rw u tt); is_start = refl; is_bits = refl; is_next = refl; inside = q; some = (good y).0; filled = (good y).1 }
        go false true false false x y z u =
            let q : at + row_size n ≤ length l = rw z at room in
            record { is_kind = last_kind k small x z u; is_start = refl; is_bits = refl; is_next = refl; inside = q; some = (good y).0; filled = (good y).1 }

-- ---- a record at a place

-- .. which the log has, with a header whose zero bit is clear
pub record Headed (w : ℕ) (l : List ℕ) (at : ℕ) (x : Record) : Type 0 where
  pub room : at + 2 + w ≤ length l
  pub bit_is_zero : zero_bit (get_or l at 0) ≡ 0
  pub rows : Rows l (at + 2 + w) (kind_of (get_or l at 0)) (bit_count (get_or l at 0) (get_or l (at + 1) 0)) x

abbrev pub Whole : ℕ → List ℕ → ℕ → Record → Type 0
Whole w l at (Sent start bits next) = Headed w l at (Sent start bits next)
Whole w l at (Clean start bits next) = Headed w l at (Clean start bits next)
Whole w l at (Collided start marks bits next) = Headed w l at (Collided start marks bits next)
Whole w l at (Silence next) = Headed w l at (Silence next)
Whole w l at End = Unit {0}
Whole w l at Cut = Unit {0}
Whole w l at Malformed = Unit {0}

headed_whole : (w : ℕ) (l : List ℕ) (at : ℕ) (x : Record) → Headed w l at x → Whole w l at x
headed_whole w l at (Sent start bits next) h = h
headed_whole w l at (Clean start bits next) h = h
headed_whole w l at (Collided start marks bits next) h = h
headed_whole w l at (Silence next) h = h
headed_whole w l at End h = tt
headed_whole w l at Cut h = tt
headed_whole w l at Malformed h = tt

pub whole : (w : ℕ) (l : List ℕ) (at : ℕ) → get_or l at 0 < 256 → Whole w l at (record_at w l at)
unfolding record_at after_header
whole w l at small = go (leb (length l) at) (ltb (length l) (at + 2 + w)) (ltb (length l) (from + rows_size k n)) (eqb (zero_bit a) 1) refl refl refl refl
  where
    a : ℕ
    a = get_or l at 0

    k : ℕ
    k = kind_of a

    n : ℕ
    n = bit_count a (get_or l (at + 1) 0)

    from : ℕ
    from = at + 2 + w

    clear : (z : ℕ) → z < 2 → eqb z 1 ≡ false → z ≡ 0
    clear zero h e = refl
    clear (suc zero) h e = absurd (false≢true (sym e))
    clear (suc (suc z)) h e = absurd (omega arith)

    go : (b₁ b₂ b₃ b₄ : Bool) → leb (length l) at ≡ b₁ → ltb (length l) (at + 2 + w) ≡ b₂ → ltb (length l) (from + rows_size k n) ≡ b₃ → eqb (zero_bit a) 1 ≡ b₄
        → Whole w l at (cond b₁ End (cond b₂ Cut (cond b₃ Cut (cond b₄ Malformed (record_of l from k n)))))
    go true b₂ b₃ b₄ e₁ e₂ e₃ e₄ = tt
    go false true b₃ b₄ e₁ e₂ e₃ e₄ = tt
    go false false true b₄ e₁ e₂ e₃ e₄ = tt
    go false false false true e₁ e₂ e₃ e₄ = tt
    go false false false false e₁ e₂ e₃ e₄ =
        headed_whole w l at (record_of l from k n)
        (record {
          room = ltb-false (length l) (at + 2 + w) e₂;
          bit_is_zero = clear (zero_bit a) (omega arith) e₄;
          rows = rows_of l from n k (omega (arith, small)) (ltb-false (length l) (from + rows_size k n) e₃);
        })
