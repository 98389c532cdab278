-- What is written is read back: a log that holds the bytes of a record at a place has that record there, with its row. Assumes nothing.
use Rattle.std.specs.Prelude.{◌≡◌, refl, ℕ, zero, suc, ◌+◌, ◌-◌, ◌*◌, ◌/◌, ◌%◌, ◌≤◌, ◌<◌, Bool, true, false, cond, eqb, ltb, take, drop, replicate}
use Rattle.std.proofs.Math.Path.{sym, ap}
use Rattle.std.proofs.Common.{◌∙◌, length-drop, drop_at, take_at, length-take-le, drop-drop, get_or-drop}
use native.Mathlib.Omega.{arith}
use Rattle.std.proofs.lemmas.Bool.{false≢true}
use mathlib.Core.List.{List, [], ◌∷◌, ◌++◌, append_assoc}
use Rattle.std.proofs.Math.ListN.{length, get_or, length-append}
use Rattle.std.proofs.lemmas.List.{length-replicate}
use Rattle.std.proofs.Math.Seq.{take-append_seam, drop-append_seam}
use borrow.Author.Tests.{ne_eqb, le-ltb, lt-leb}
use Rattle.rows.specs.Rows.{overlay, Bits, clean, fill}
use Rattle.air_log.specs.Log.{pack, header, tick_bytes, plain, marks, sent_record, heard_record}
use Rattle.air_log.specs.Calls.{most_bits, row_size}
use Rattle.air_log.specs.Reading.{unpacked, bits_from, row_at, fill_at, zeros, clash, apart, good_row, good_marks, rows_size, collided_of, record_of, kind_of, zero_bit, bit_count, after_header, record_at, tick_at}
use Rattle.air_log.specs.PackLaws.{length_packed, length_shown, shown_bits}
use Rattle.air_log.proofs.RecordLaws.{length_pack, heard_clean, heard_collided, plain_clean}
use Rattle.air_log.specs.BitBackLaws.{unpack_back, unpacked_append}
use Rattle.air_log.specs.declared.Record.TheVariants.{Sent, Clean, Collided, Silence}

-- where a row was written it stands
pub written_there : (d : List ℕ) (at : ℕ) (s : List ℕ) → at ≤ length d → drop at (overlay d at s) ≡ s ++ drop (at + length s) d
unfolding overlay
written_there d at s h = drop_at (take at d) (s ++ drop (at + length s) d) at (length-take-le at d h)

zeros_zeros : (n : ℕ) → zeros (replicate n 0) ≡ true
unfolding zeros
zeros_zeros zero = refl
zeros_zeros (suc n) = zeros_zeros n

-- ---- a row in a log

module _ (l : List ℕ) (at : ℕ) (r q : List ℕ) (b : Bits r) (e : drop at l ≡ pack r ++ q) where
  bits_back : bits_from l at ≡ r ++ (replicate (8 * row_size (length r) - length r) 0 ++ unpacked q)
  unfolding fill
  bits_back =
      ap unpacked e
      ∙ unpacked_append (pack r) q
      ∙ ap (λ s. s ++ unpacked q) (unpack_back (row_size (length r)) r b (omega arith))
      ∙ append_assoc r (replicate (8 * row_size (length r) - length r) 0) (unpacked q)

  -- its bits are read back
  pub row_back : row_at l at (length r) ≡ r
  row_back = ap (take (length r)) bits_back ∙ take-append_seam r _

  fill_back : fill_at l at (length r) ≡ replicate (8 * row_size (length r) - length r) 0
  fill_back =
      let k : ℕ = 8 * row_size (length r) - length r in
      ap (λ s. take k (drop (length r) s)) bits_back
      ∙ ap (take k) (drop-append_seam r _)
      ∙ take_at (replicate k 0) (unpacked q) k (length-replicate k 0)

  pub fill_good : zeros (fill_at l at (length r)) ≡ true
  fill_good = ap zeros fill_back ∙ zeros_zeros (8 * row_size (length r) - length r)

  pub row_good : 0 < length r → good_row l at (length r) ≡ true
  unfolding good_row
  row_good h = rw (ne_eqb (length r) 0 (λ z. omega arith)) fill_good

-- ---- a header in a log

-- the parts of a header's first byte
kind_back : (k y : ℕ) → y < 32 → (64 * k + y) / 64 ≡ k
kind_back k y h = omega arith

zero_back : (k y : ℕ) → y < 32 → (64 * k + y) / 32 % 2 ≡ 0
zero_back k y h = let e : (64 * k + y) / 32 ≡ 2 * k = omega arith in rw e (omega arith)

count_back : (k y z : ℕ) → y < 32 → 256 * ((64 * k + y) % 32) + z ≡ 256 * y + z
count_back k y z h = let e : (64 * k + y) % 32 ≡ y = omega arith in rw e

module _ (l : List ℕ) (at k n : ℕ) (x s : List ℕ) (hk : k < 4) (hn : n ≤ most_bits) (e : drop at l ≡ header k n ++ (x ++ s)) where
  first_back : get_or l at 0 ≡ 64 * k + n / 256
  unfolding header
  first_back =
      let z : at + 0 ≡ at = omega arith in
      ap (λ i. get_or l i 0) (sym z) ∙ sym (get_or-drop at l 0 0) ∙ ap (λ t. get_or t 0 0) e

  second_back : get_or l (at + 1) 0 ≡ n % 256
  unfolding header
  second_back = sym (get_or-drop at l 1 0) ∙ ap (λ t. get_or t 1 0) e

  stamp_back : drop (at + 2) l ≡ x ++ s
  unfolding header
  stamp_back = sym (drop-drop 2 at l) ∙ ap (drop 2) e

  pub rest_back : drop (at + 2 + length x) l ≡ s
  rest_back = sym (drop-drop (length x) (at + 2) l) ∙ ap (drop (length x)) stamp_back ∙ drop_at x s (length x) refl

  length_back : length l - at ≡ 2 + length x + length s
  unfolding header
  length_back = sym (length-drop at l) ∙ ap length e ∙ omega (arith, length-append x s)

  pub header_back : rows_size k n ≤ length s → record_at (length x) l at ≡ record_of l (at + 2 + length x) k n
  unfolding record_at after_header
  header_back h =
      let d = length_back in
      let y : n / 256 < 32 = omega arith in
      let e₁ : kind_of (64 * k + n / 256) ≡ k = kind_back k (n / 256) y in
      let e₂ : bit_count (64 * k + n / 256) (n % 256) ≡ n = count_back k (n / 256) (n % 256) y ∙ omega arith in
      let e₃ : zero_bit (64 * k + n / 256) ≡ 0 = zero_back k (n / 256) y in
      rw (
        lt-leb (length l) at (omega arith),
        le-ltb (length l) (at + 2 + length x) (omega arith),
        first_back,
        second_back,
        e₁,
        e₂,
        e₃,
        le-ltb (length l) (at + 2 + length x + rows_size k n) (omega arith),
      )

-- ---- records

-- a header, a stamp and what follows
headed : (k n : ℕ) (x p q : List ℕ) → (header k n ++ (x ++ p)) ++ q ≡ header k n ++ (x ++ (p ++ q))
headed k n x p q = append_assoc (header k n) (x ++ p) q ∙ ap (λ s. header k n ++ s) (append_assoc x p q)

-- with one row
one_row : (l : List ℕ) (at k : ℕ) (x r q : List ℕ) → k < 4 → eqb k 2 ≡ false → Bits r → 0 < length r → length r ≤ most_bits
    → drop at l ≡ (header k (length r) ++ (x ++ pack r)) ++ q
    → (record_at (length x) l at ≡ record_of l (at + 2 + length x) k (length r))
    × (good_row l (at + 2 + length x) (length r) ≡ true)
    × (row_at l (at + 2 + length x) (length r) ≡ r)
one_row l at k x r q hk two b h n e =
    let f : drop at l ≡ header k (length r) ++ (x ++ (pack r ++ q)) = e ∙ headed k (length r) x (pack r) q in
    let p : drop (at + 2 + length x) l ≡ pack r ++ q = rest_back l at k (length r) x (pack r ++ q) hk n f in
    let room : rows_size k (length r) ≤ length (pack r ++ q) = rw (two, length-append, length_packed) (omega arith) in
    (header_back l at k (length r) x (pack r ++ q) hk n f room, row_good l (at + 2 + length x) r q b p h, row_back l (at + 2 + length x) r q b p)

-- a reader frame
pub sent_back : (l : List ℕ) (at : ℕ) (x f q : List ℕ) → Bits f → 0 < length f → length f ≤ most_bits → drop at l ≡ sent_record x f ++ q
    → (record_at (length x) l at ≡ Sent (at + 2 + length x) (length f) (at + 2 + length x + row_size (length f)))
    × (row_at l (at + 2 + length x) (length f) ≡ f)
unfolding sent_record record_of
sent_back l at x f q b h n e =
    let t = one_row l at 0 x f q (omega arith) refl b h n e in
    (t.0 ∙ rw t.1 refl, t.2)

-- silence
pub silence_back : (l : List ℕ) (at : ℕ) (x q : List ℕ) → drop at l ≡ heard_record x [] ++ q → record_at (length x) l at ≡ Silence (at + 2 + length x)
unfolding heard_record record_of
silence_back l at x q e = header_back l at 3 0 x q (omega arith) (omega arith) (e ∙ append_assoc (header 3 0) x q) (omega arith)

-- a clean row is bits
clean_bits : (r : List ℕ) → clean r ≡ true → Bits r
clean_bits r c = rw (plain_clean r c) at (shown_bits false r)

-- a clean answer
pub clean_back : (l : List ℕ) (at : ℕ) (x r q : List ℕ) → clean r ≡ true → 0 < length r → length r ≤ most_bits → drop at l ≡ heard_record x r ++ q
    → (record_at (length x) l at ≡ Clean (at + 2 + length x) (length r) (at + 2 + length x + row_size (length r)))
    × (row_at l (at + 2 + length x) (length r) ≡ r)
unfolding record_of
clean_back l at x r q c h n e =
    let f : heard_record x r ≡ header 1 (length r) ++ (x ++ pack r) = rw (plain_clean r c) at (heard_clean x r h c) in
    let t = one_row l at 1 x r q (omega arith) refl (clean_bits r c) h n (rw f at e) in
    (t.0 ∙ rw t.1 refl, t.2)

-- ---- an answer with a collision

-- some mark is there
marks_some : (r : List ℕ) → clean r ≡ false → zeros (marks r) ≡ false
unfolding zeros marks clean
marks_some [] c = absurd (false≢true (sym c))
marks_some (x ∷ r) c = go (ltb 1 x) c (marks_some r)
  where
    go : (t : Bool) → cond t false (clean r) ≡ false → (clean r ≡ false → zeros (marks r) ≡ false)
        → cond (eqb (cond t 1 0) 0) (zeros (marks r)) false ≡ false
    go true c rest = refl
    go false c rest = rest c

-- no bit is 1 where a mark is
marks_apart : (r : List ℕ) → apart (plain r) (marks r) ≡ true
unfolding apart plain marks
marks_apart [] = refl
marks_apart (x ∷ r) = go (ltb 1 x) (eqb x 0) refl (marks_apart r)
  where
    go : (t z : Bool) → eqb x 0 ≡ z → apart (plain r) (marks r) ≡ true
        → cond (clash (cond t 0 x) (cond t 1 0)) false (apart (plain r) (marks r)) ≡ true
    go true z e rest = rest
    go false true e rest = rw e rest
    go false false e rest = rw e rest

some_bits : (r : List ℕ) → clean r ≡ false → 0 < length (plain r)
unfolding clean plain
some_bits [] c = absurd (false≢true (sym c))
some_bits (x ∷ r) c = omega arith

pub collided_back : (l : List ℕ) (at : ℕ) (x r q : List ℕ) → clean r ≡ false → length r ≤ most_bits → drop at l ≡ heard_record x r ++ q
    → (record_at (length x) l at ≡ Collided (at + 2 + length x) (at + 2 + length x + row_size (length r)) (length r) (at + 2 + length x + 2 * row_size (length r)))
    × (row_at l (at + 2 + length x) (length r) ≡ plain r)
    × (row_at l (at + 2 + length x + row_size (length r)) (length r) ≡ marks r)
unfolding record_of collided_of good_marks
collided_back l at x r q c n e =
    let k : ℕ = row_size (length r) in
    let i : ℕ = at + 2 + length x in
    let s : List ℕ = pack (marks r) ++ q in
    let f : drop at l ≡ header 2 (length r) ++ (x ++ (pack (plain r) ++ s)) =
    e
    ∙ ap (λ t. t ++ q) (heard_collided x r c)
    ∙ headed 2 (length r) x (pack (plain r) ++ pack (marks r)) q
    ∙ ap (λ t. header 2 (length r) ++ (x ++ t)) (append_assoc (pack (plain r)) (pack (marks r)) q) in
    let p : drop i l ≡ pack (plain r) ++ s = rest_back l at 2 (length r) x (pack (plain r) ++ s) (omega arith) n f in
    let m : drop (i + k) l ≡ s =
    sym (drop-drop k i l) ∙ ap (drop k) p ∙ drop_at (pack (plain r)) s k (length_pack false r) in
    let room : 2 * k ≤ length (pack (plain r) ++ s) =
    rw (length-append, length_pack false r, length-append, length_pack true r) (omega arith) in
    let a = header_back l at 2 (length r) x (pack (plain r) ++ s) (omega arith) n f room in
    let g = rw (length_shown false r) at (row_good l i (plain r) s (shown_bits false r) p (some_bits r c)) in
    let u = rw (length_shown false r) at (row_back l i (plain r) s (shown_bits false r) p) in
    let v = rw (length_shown true r) at (row_back l (i + k) (marks r) q (shown_bits true r) m) in
    let w = rw (length_shown true r) at (fill_good l (i + k) (marks r) q (shown_bits true r) m) in
    (a ∙ rw (g, u, v, marks_some r c, marks_apart r, w) refl, u, v)

-- ---- ticks

-- two bytes, the greater first, of a number
two_bytes : (t : ℕ) → 256 * (t / 256 % 256) + t % 256 ≡ t % 65536
two_bytes t = omega arith

words : (t : ℕ) → 65536 * (t / 65536 % 65536) + t % 65536 ≡ t % 4294967296
words t = omega arith

four_bytes : (t : ℕ) → 16777216 * (t / 16777216 % 256) + 65536 * (t / 65536 % 256) + 256 * (t / 256 % 256) + t % 256 ≡ t % 4294967296
four_bytes t =
    let e : t / 16777216 ≡ t / 65536 / 256 = omega arith in
    let u = two_bytes (t / 65536) in
    let v = two_bytes t in
    let w = words t in
    rw e (sum (t / 65536 / 256 % 256) (t / 65536 % 256) (t / 256 % 256) (t % 256) (t / 65536 % 65536) (t % 65536) u v ∙ w)
  where
    sum : (a b c d x y : ℕ) → 256 * a + b ≡ x → 256 * c + d ≡ y → 16777216 * a + 65536 * b + 256 * c + d ≡ 65536 * x + y
    sum a b c d x y p q = omega arith

-- T-09: the tick of a record is read back, modulo 2^32
pub tick_back : (l : List ℕ) (at k n t : ℕ) (s : List ℕ) → drop at l ≡ header k n ++ (tick_bytes t ++ s) → tick_at l at ≡ t % 4294967296
unfolding header tick_bytes tick_at
tick_back l at k n t s e =
    let b₂ : get_or l (at + 2) 0 ≡ t / 16777216 % 256 = sym (get_or-drop at l 2 0) ∙ ap (λ r. get_or r 2 0) e in
    let b₃ : get_or l (at + 3) 0 ≡ t / 65536 % 256 = sym (get_or-drop at l 3 0) ∙ ap (λ r. get_or r 3 0) e in
    let b₄ : get_or l (at + 4) 0 ≡ t / 256 % 256 = sym (get_or-drop at l 4 0) ∙ ap (λ r. get_or r 4 0) e in
    let b₅ : get_or l (at + 5) 0 ≡ t % 256 = sym (get_or-drop at l 5 0) ∙ ap (λ r. get_or r 5 0) e in
    rw (b₂, b₃, b₄, b₅) (four_bytes t)
