-- Bytes that are unpacked are packed again: a row that is read from a log, with zeros behind it, is packed into the bytes that it was read from.
-- Assumes nothing.
use Rattle.std.specs.Prelude.{◌≡◌, refl, ℕ, zero, suc, ◌+◌, ◌-◌, ◌*◌, ◌/◌, ◌%◌, ◌^◌, ◌≤◌, ◌<◌, Bool, true, false, cond, eqb, length, take, get_or, replicate}
use Rattle.std.proofs.Common.{sym, ◌∙◌, arith, eqb→eq, length-append, take_all, take_at, drop_at, get_or-append-add, drop-drop}
use Rattle.std.proofs.Math.Path.{ap, ap₂}
use Rattle.std.proofs.lemmas.Bool.{false≢true}
use mathlib.Core.List.{List, [], ◌∷◌, ◌++◌}
use Rattle.std.proofs.Math.ListN.{drop, length-drop, take-append-drop}
use Rattle.std.proofs.lemmas.List.{take-append-le, drop-append-le}
use Rattle.std.proofs.Math.Seq.{length-take-le}
use Rattle.rows.specs.Rows.{Bits, Bytes, fill}
use Rattle.rows.specs.ListLaws.{all_take_law, all_drop, all_append}
use Rattle.air_log.specs.Log.{from_top, packed}
use Rattle.air_log.specs.Calls.{row_size}
use Rattle.air_log.specs.Reading.{top_bits, unpacked, bits_from, row_at, fill_at, zeros}
use Rattle.air_log.specs.PackLaws.{top_next, top_lt, length_packed}
use Rattle.air_log.specs.UnpackLaws.{length_top, length_unpacked}
use Rattle.air_log.specs.BitBackLaws.{unpack_back, unpacked_append}

-- ---- one byte

top_bits_law : (n b : ℕ) → Bits (top_bits n b)
unfolding top_bits
top_bits_law zero b = tt
top_bits_law (suc n) b = all_append (λ x. x < 2) (top_bits n (b / 2)) (b % 2 ∷ []) (top_bits_law n (b / 2)) (omega arith, tt)

last_of : (l : List ℕ) (n x : ℕ) → length l ≡ n → get_or (l ++ x ∷ []) n 0 ≡ x
last_of l n x e = let z : length l + 0 ≡ n = omega arith in rw (← z) (get_or-append-add l (x ∷ []) 0 0)

from_top_law : (n b : ℕ) → b < 2 ^ n → from_top n (top_bits n b) ≡ b
unfolding from_top top_bits
from_top_law zero b h = omega arith
from_top_law (suc n) b h =
    let l : List ℕ = top_bits n (b / 2) in
    let m : List ℕ = l ++ b % 2 ∷ [] in
    let k : length l ≡ n = length_top n (b / 2) in
    let whole : take (suc n) m ≡ m = take_all (suc n) m (rw (length-append, k) (omega arith)) in
    let front : take n m ≡ l = take_at l (b % 2 ∷ []) n k in
    let i : from_top n l ≡ b / 2 = from_top_law n (b / 2) (omega arith) in
    ap (from_top (suc n)) (sym whole) ∙ top_next n m ∙ rw (front, i, last_of l n (b % 2) k) (omega arith)

-- ---- a row

unpacked_bits : (l : List ℕ) → Bits (unpacked l)
unfolding unpacked
unpacked_bits [] = tt
unpacked_bits (b ∷ l) = all_append (λ x. x < 2) (top_bits 8 b) (unpacked l) (top_bits_law 8 b) (unpacked_bits l)

pub row_bits_law : (l : List ℕ) (at n : ℕ) → Bits (row_at l at n)
row_bits_law l at n = all_take_law (λ x. x < 2) n (bits_from l at) (unpacked_bits (drop at l))

pack_unpacked : (bs : List ℕ) → Bytes bs → packed (length bs) (unpacked bs) ≡ bs
unfolding packed unpacked
pack_unpacked [] h = refl
pack_unpacked (b ∷ bs) h =
    ap₂ ◌∷◌
    (ap (from_top 8) (take_at (top_bits 8 b) (unpacked bs) 8 (length_top 8 b)) ∙ from_top_law 8 b h.0)
    (ap (packed (length bs)) (drop_at (top_bits 8 b) (unpacked bs) 8 (length_top 8 b)) ∙ pack_unpacked bs h.1)

packed_bytes : (m : ℕ) (r : List ℕ) → Bits r → Bytes (packed m r)
unfolding packed
packed_bytes zero r b = tt
packed_bytes (suc m) r b = (top_lt 8 (take 8 r) (all_take_law (λ x. x < 2) 8 r b), packed_bytes m (drop 8 r) (all_drop (λ x. x < 2) 8 r b))

zeros_are : (r : List ℕ) → zeros r ≡ true → r ≡ replicate (length r) 0
unfolding zeros
zeros_are [] h = refl
zeros_are (x ∷ r) h = go (eqb x 0) refl h (zeros_are r)
  where
    go : (b : Bool) → eqb x 0 ≡ b → cond b (zeros r) false ≡ true → (zeros r ≡ true → r ≡ replicate (length r) 0) → x ∷ r ≡ 0 ∷ replicate (length r) 0
    go true e h rest = ap₂ ◌∷◌ (eqb→eq x 0 (rw e tt)) (rest h)
    go false e h rest = absurd (false≢true h)

-- n bits of m bytes, zeros behind them
pack_back : (bs : List ℕ) (n : ℕ) → Bytes bs → n ≤ 8 * length bs → zeros (drop n (unpacked bs)) ≡ true → packed (length bs) (take n (unpacked bs)) ≡ bs
unfolding fill
pack_back bs n b h z =
    let m : ℕ = length bs in
    let u : List ℕ = unpacked bs in
    let r : List ℕ = take n u in
    let bits : Bits r = all_take_law (λ x. x < 2) n u (unpacked_bits bs) in
    let long : length u ≡ 8 * m = length_unpacked bs in
    let k : length r ≡ n = length-take-le n u (omega arith) in
    let e : length (drop n u) ≡ 8 * m - length r = length-drop n u ∙ omega arith in
    let whole : r ++ replicate (8 * m - length r) 0 ≡ u =
    ap (λ s. r ++ s) (sym (zeros_are (drop n u) z ∙ ap (λ i. replicate i 0) e)) ∙ take-append-drop n u in
    let same : unpacked (packed m r) ≡ u = unpack_back m r bits (omega arith) ∙ whole in
    let len : length (packed m r) ≡ m = length_packed m r in
    sym (rw len at (pack_unpacked (packed m r) (packed_bytes m r bits))) ∙ ap (packed m) same ∙ pack_unpacked bs b

-- ---- a row in a log

module _ (l : List ℕ) (at n : ℕ) (b : Bytes l) (room : at + row_size n ≤ length l) where
  bytes : List ℕ
  bytes = take (row_size n) (drop at l)

  tail : List ℕ
  tail = drop (row_size n) (drop at l)

  long : length bytes ≡ row_size n
  unfolding bytes
  long = length-take-le (row_size n) (drop at l) (rw length-drop (omega arith))

  parted : bits_from l at ≡ unpacked bytes ++ unpacked tail
  unfolding bytes tail
  parted = ap unpacked (sym (take-append-drop (row_size n) (drop at l))) ∙ unpacked_append bytes tail

  bits_long : length (unpacked bytes) ≡ 8 * row_size n
  bits_long = length_unpacked bytes ∙ ap (λ i. 8 * i) long

  row_is : row_at l at n ≡ take n (unpacked bytes)
  row_is = ap (take n) parted ∙ take-append-le n (unpacked bytes) (unpacked tail) (omega (arith, bits_long))

  fill_is : fill_at l at n ≡ drop n (unpacked bytes)
  fill_is =
      ap (λ s. take (8 * row_size n - n) (drop n s)) parted
      ∙ ap (take (8 * row_size n - n)) (drop-append-le n (unpacked bytes) (unpacked tail) (omega (arith, bits_long)))
      ∙ take_at (drop n (unpacked bytes)) (unpacked tail) (8 * row_size n - n) (length-drop n (unpacked bytes) ∙ ap (λ i. i - n) bits_long)

  -- the row, packed, stands there
  pub row_packed : zeros (fill_at l at n) ≡ true → packed (row_size n) (row_at l at n) ++ drop (at + row_size n) l ≡ drop at l
  unfolding bytes tail
  row_packed z =
      let e : packed (length bytes) (take n (unpacked bytes)) ≡ bytes =
      pack_back bytes n (all_take_law (λ x. x < 256) (row_size n) (drop at l) (all_drop (λ x. x < 256) at l b)) (omega (arith, long)) (rw fill_is at z) in
      ap (λ s. packed (row_size n) s ++ drop (at + row_size n) l) row_is
      ∙ ap₂ ◌++◌ (rw long at e) (sym (drop-drop (row_size n) at l)) ∙ take-append-drop (row_size n) (drop at l)
