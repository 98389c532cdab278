-- A record that was read is written back: the bytes at its place are its own, with some stamp, and what stands behind it. Assumes nothing.
use Rattle.std.specs.Prelude.{◌≡◌, true, false}
use Rattle.std.proofs.Math.Path.{refl, sym, ap, ap₂}
use Rattle.std.proofs.Common.{◌∙◌, add-one, true≢false, drop-cons, drop-drop}
use Prim.Native.Nat.{ℕ, zero, suc, ◌+◌, ◌*◌, ◌/◌, ◌%◌, ◌≤◌, ◌<◌}
use native.Mathlib.Omega.{arith}
use Rattle.std.proofs.Math.Bool.{cond}
use Rattle.std.proofs.lemmas.Bool.{false≢true}
use mathlib.Core.List.{List, [], ◌∷◌, ◌++◌, append_assoc}
use Rattle.std.proofs.Math.ListN.{length, take, drop, get_or, length-drop, take-append-drop}
use Rattle.std.proofs.Math.Seq.{length-take-le}
use Rattle.rows.specs.Rows.{Bits, Bytes, clean}
use Rattle.rows.specs.CleanLaws.{bits_clean, bit_two}
use Rattle.air_log.specs.Log.{packed, pack, header, plain, marks, sent_record, heard_record}
use Rattle.air_log.specs.Calls.{row_size}
use Rattle.air_log.specs.Reading.{row_at, fill_at, bits_from, zeros, apart, kind_of, zero_bit, bit_count}
use Rattle.air_log.proofs.RecordLaws.{plain_clean, heard_clean, heard_collided}
use Rattle.air_log.specs.UnpackLaws.{bits_enough}
use Rattle.trace_rules.specs.Trace.{marked}
use Rattle.trace_rules.specs.PackBackLaws.{row_bits_law, row_packed}
use Rattle.trace_rules.specs.WholeLaws.{OneRow, TwoRows, NoRow}

-- ---- a row with its marks

module _ where
  marked_plain : (r m : List ℕ) → Bits r → Bits m → length r ≡ length m → apart r m ≡ true → plain (marked r m) ≡ r
  unfolding marked plain apart
  marked_plain [] m b d e h = refl
  marked_plain (x ∷ r) [] b d e h = absurd (omega arith)
  marked_plain (zero ∷ r) (zero ∷ m) b d e h = ap (λ s. 0 ∷ s) (marked_plain r m b.1 d.1 (omega arith) h)
  marked_plain (zero ∷ r) (suc zero ∷ m) b d e h = ap (λ s. 0 ∷ s) (marked_plain r m b.1 d.1 (omega arith) h)
  marked_plain (suc zero ∷ r) (zero ∷ m) b d e h = ap (λ s. 1 ∷ s) (marked_plain r m b.1 d.1 (omega arith) h)
  marked_plain (suc zero ∷ r) (suc zero ∷ m) b d e h = absurd (false≢true h)
  marked_plain (suc (suc x) ∷ r) (y ∷ m) b d e h = absurd (omega (arith, b.0))
  marked_plain (zero ∷ r) (suc (suc y) ∷ m) b d e h = absurd (omega (arith, d.0))
  marked_plain (suc zero ∷ r) (suc (suc y) ∷ m) b d e h = absurd (omega (arith, d.0))

  marked_marks : (r m : List ℕ) → Bits r → Bits m → length r ≡ length m → marks (marked r m) ≡ m
  unfolding marked marks
  marked_marks [] [] b d e = refl
  marked_marks [] (y ∷ m) b d e = absurd (omega arith)
  marked_marks (x ∷ r) [] b d e = absurd (omega arith)
  marked_marks (x ∷ r) (zero ∷ m) b d e = ap₂ ◌∷◌ (ap (λ t. cond t 1 0) (bit_two x b.0)) (marked_marks r m b.1 d.1 (omega arith))
  marked_marks (x ∷ r) (suc zero ∷ m) b d e = ap (λ s. 1 ∷ s) (marked_marks r m b.1 d.1 (omega arith))
  marked_marks (x ∷ r) (suc (suc y) ∷ m) b d e = absurd (omega (arith, d.0))

  marked_struck : (r m : List ℕ) → Bits r → Bits m → length r ≡ length m → zeros m ≡ false → clean (marked r m) ≡ false
  unfolding marked clean zeros
  marked_struck [] [] b d e h = absurd (true≢false h)
  marked_struck [] (y ∷ m) b d e h = absurd (omega arith)
  marked_struck (x ∷ r) [] b d e h = absurd (omega arith)
  marked_struck (x ∷ r) (zero ∷ m) b d e h = rw (bit_two x b.0) (marked_struck r m b.1 d.1 (omega arith) h)
  marked_struck (x ∷ r) (suc zero ∷ m) b d e h = refl
  marked_struck (x ∷ r) (suc (suc y) ∷ m) b d e h = absurd (omega (arith, d.0))

  length_marked : (r m : List ℕ) → length (marked r m) ≡ length r
  unfolding marked
  length_marked [] m = refl
  length_marked (x ∷ r) [] = refl
  length_marked (x ∷ r) (y ∷ m) = ap suc (length_marked r m)

-- ---- a header

header_is : (a b k n : ℕ) → a < 256 → b < 256 → kind_of a ≡ k → zero_bit a ≡ 0 → n ≡ bit_count a b → header k n ≡ a ∷ b ∷ []
unfolding header
header_is a b k n ha hb hk hz hn =
    let e : 64 * k + n / 256 ≡ a = omega arith in
    let f : n % 256 ≡ b = omega arith in
    rw (e, f)

module _ (w : ℕ) (l : List ℕ) (at : ℕ) (bytes : Bytes l) (room : at + 2 + w ≤ length l) where
  -- the stamp that stands there
  pub stamp : List ℕ
  stamp = take w (drop (at + 2) l)

  pub stamp_wide : length stamp ≡ w
  unfolding stamp
  stamp_wide = length-take-le w (drop (at + 2) l) (rw length-drop (omega arith))

  headed : (k n : ℕ) (s : List ℕ) → header k n ≡ get_or l at 0 ∷ get_or l (at + 1) 0 ∷ [] → s ≡ drop (at + 2 + w) l → drop at l ≡ header k n ++ (stamp ++ s)
  unfolding stamp
  headed k n s h e =
      let d₁ : drop at l ≡ get_or l at 0 ∷ drop (at + 1) l = rw (drop-cons l at 0 (omega arith), add-one) in
      let d₂ : drop (at + 1) l ≡ get_or l (at + 1) 0 ∷ drop (at + 2) l = let z : at + 2 ≡ suc (at + 1) = omega arith in rw (drop-cons l (at + 1) 0 (omega arith), z) in
      let t : take w (drop (at + 2) l) ++ drop (at + 2 + w) l ≡ drop (at + 2) l =
      ap (λ q. take w (drop (at + 2) l) ++ q) (sym (drop-drop w (at + 2) l)) ∙ take-append-drop w (drop (at + 2) l) in
      rw (h, e, t, d₁, d₂)

  -- ---- the records

  abbrev pub Again : List ℕ → ℕ → Type 0
  Again s next = drop at l ≡ s ++ drop next l

  module _ (bit_is_zero : zero_bit (get_or l at 0) ≡ 0) (first : get_or l at 0 < 256) (second : get_or l (at + 1) 0 < 256) where
    abbrev from : ℕ
    from = at + 2 + w

    abbrev bits : ℕ
    bits = bit_count (get_or l at 0) (get_or l (at + 1) 0)

    head : (k : ℕ) → kind_of (get_or l at 0) ≡ k → header k bits ≡ get_or l at 0 ∷ get_or l (at + 1) 0 ∷ []
    head k e = header_is (get_or l at 0) (get_or l (at + 1) 0) k bits first second e bit_is_zero refl

    row_long : from + row_size bits ≤ length l → length (row_at l from bits) ≡ bits
    row_long h = length-take-le bits (bits_from l from) (omega (arith, bits_enough l from (row_size bits) h))

    -- a header and one row
    one_again : {k start n next : ℕ} → OneRow l from (kind_of (get_or l at 0)) bits k start n next
        → Again (header k (length (row_at l start n)) ++ (stamp ++ pack (row_at l start n))) next
    one_again {k} r =
        rw (r.is_start, r.is_bits, r.is_next, row_long r.inside, append_assoc, append_assoc)
        (headed k bits (packed (row_size bits) (row_at l from bits) ++ drop (from + row_size bits) l) (head k r.is_kind) (row_packed l from bits bytes r.inside r.filled))

    pub sent_again : {start n next : ℕ} → OneRow l from (kind_of (get_or l at 0)) bits 0 start n next → Again (sent_record stamp (row_at l start n)) next
    unfolding sent_record
    sent_again r = one_again r

    pub clean_again : {start n next : ℕ} → OneRow l from (kind_of (get_or l at 0)) bits 1 start n next → Again (heard_record stamp (row_at l start n)) next
    clean_again {start} {n} {next} r =
        let c : clean (row_at l start n) ≡ true = bits_clean (row_at l start n) (row_bits_law l start n) in
        let k : 0 < length (row_at l start n) = rw (r.is_start, r.is_bits, row_long r.inside) r.some in
        rw (heard_clean stamp (row_at l start n) k c, plain_clean (row_at l start n) c) (one_again r)

    pub silent_again : {next : ℕ} → NoRow l from (kind_of (get_or l at 0)) bits next → Again (heard_record stamp []) next
    unfolding heard_record
    silent_again r =
        rw (r.is_next, append_assoc) (headed 3 0 (drop from l) (rw r.none at (head 3 r.is_kind)) refl)

    -- a header, a row and its marks
    module _ (t : from + 2 * row_size bits ≤ length l) where
      R : ℕ
      R = row_size bits

      r : List ℕ
      r = row_at l from bits

      d : List ℕ
      d = row_at l (from + row_size bits) bits

      r_long : length r ≡ bits
      unfolding r
      r_long = row_long (omega arith)

      d_long : length d ≡ bits
      unfolding d
      d_long = length-take-le bits (bits_from l (from + row_size bits)) (omega (arith, bits_enough l (from + row_size bits) (row_size bits) (omega arith)))

      rows_packed : zeros (fill_at l from bits) ≡ true → zeros (fill_at l (from + row_size bits) bits) ≡ true
          → packed (row_size bits) r ++ (packed (row_size bits) d ++ drop (from + 2 * row_size bits) l) ≡ drop from l
      unfolding r d
      rows_packed f g =
          let e : from + 2 * row_size bits ≡ from + row_size bits + row_size bits = omega arith in
          rw (e, row_packed l (from + row_size bits) bits bytes (omega arith) g) (row_packed l from bits bytes (omega arith) f)

      two_again : kind_of (get_or l at 0) ≡ 2 → zeros (fill_at l from bits) ≡ true → zeros (fill_at l (from + row_size bits) bits) ≡ true
          → zeros d ≡ false → apart r d ≡ true → Again (heard_record stamp (marked r d)) (from + 2 * row_size bits)
      unfolding r d
      two_again k f g z a =
          let br : Bits r = row_bits_law l from bits in
          let bd : Bits d = row_bits_law l (from + row_size bits) bits in
          let e : length r ≡ length d = r_long ∙ sym d_long in
          rw (heard_collided stamp (marked r d) (marked_struck r d br bd e z), marked_plain r d br bd e a, marked_marks r d br bd e, length_marked r d, r_long, d_long, append_assoc, append_assoc, append_assoc)
          (headed 2 bits (packed (row_size bits) r ++ (packed (row_size bits) d ++ drop (from + 2 * row_size bits) l)) (head 2 k) (rows_packed f g))

    pub collided_again : {start m n next : ℕ} → TwoRows l from (kind_of (get_or l at 0)) bits start m n next → Again (heard_record stamp (marked (row_at l start n) (row_at l m n))) next
    unfolding r d
    collided_again t = rw (t.is_start, t.is_marks, t.is_bits, t.is_next) (two_again t.inside t.is_kind t.filled t.marks_filled t.struck t.held)
