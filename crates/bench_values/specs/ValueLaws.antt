-- Laws of words as values. Assumes nothing.
use Rattle.std.specs.Prelude.{◌≡◌, refl, Bool, true, false, List, [], ◌∷◌, ℕ, zero, suc, ◌+◌, ◌*◌, ◌/◌, ◌%◌, ◌^◌, ◌≤◌, ◌<◌, length, take, drop, get_or, set, leb}
use Rattle.std.proofs.Common.{ap, add-one, zero-add, pow-suc, arith, drop_of_length-le, drop-cons, lt-ltb, le-ltb, leb-true, leb-false}
use Rattle.rows.specs.Rows.{overlay}
use Rattle.rows.proofs.RowLaws.{overlay_copy}
use Rattle.bench_values.specs.declared.Alphabet.{Alphabet}
use Rattle.bench_values.specs.Values.{value_of, spelt, bit_value, decimal_value, hex_pair, hex_bytes, row_bits, joined}

-- ---- the loop over the letters

pub spelt_next : (a : Alphabet) (w : List ℕ) (i : ℕ) → i < length w → value_of a (get_or w i 0) < 16 → spelt a (drop i w) ≡ spelt a (drop (i + 1) w)
unfolding spelt
spelt_next a w i l h = rw (add-one, drop-cons w i 0) (rw (lt-ltb (value_of a (get_or w i 0)) 16 h))

pub spelt_here : (a : Alphabet) (w : List ℕ) (i : ℕ) → i < length w → 16 ≤ value_of a (get_or w i 0) → spelt a (drop i w) ≡ false
unfolding spelt
spelt_here a w i l h = rw (drop-cons w i 0) (rw (le-ltb (value_of a (get_or w i 0)) 16 h))

pub spelt_done : (a : Alphabet) (w : List ℕ) (i : ℕ) → length w ≤ i → spelt a (drop i w) ≡ true
unfolding spelt
spelt_done a w i l = rw (drop_of_length-le w l)

-- ---- the loops that write

-- a turn of a loop that writes at the front
pub copy_front : (d s : List ℕ) (i : ℕ) → i < length d → i < length s
    → set (overlay d 0 (take i s)) i (get_or s i 0) ≡ overlay d 0 (take (i + 1) s)
copy_front d s i h l = rw zero-add at (overlay_copy d 0 s i (rw zero-add h) l)

pub length_row_bits : (w : List ℕ) → length (row_bits w) ≡ length w
unfolding row_bits
length_row_bits [] = refl
length_row_bits (c ∷ w) = ap suc (length_row_bits w)

pub row_at : (w : List ℕ) (i : ℕ) → i < length w → get_or (row_bits w) i 0 ≡ bit_value (get_or w i 0)
unfolding row_bits
row_at [] i h = absurd (omega arith)
row_at (c ∷ w) zero h = refl
row_at (c ∷ w) (suc i) h = row_at w i (omega arith)

pub length_hex_bytes : (w : List ℕ) → length (hex_bytes w) ≡ length w / 2
unfolding hex_bytes
length_hex_bytes [] = refl
length_hex_bytes (a ∷ []) = refl
length_hex_bytes (a ∷ b ∷ w) = omega (arith, length_hex_bytes w)

pub hex_at : (w : List ℕ) (i : ℕ) → 2 * i + 1 < length w → get_or (hex_bytes w) i 0 ≡ hex_pair (get_or w (2 * i) 0) (get_or w (2 * i + 1) 0)
unfolding hex_bytes
hex_at [] i h = absurd (omega arith)
hex_at (a ∷ []) i h = absurd (omega arith)
hex_at (a ∷ b ∷ w) zero h = refl
hex_at (a ∷ b ∷ w) (suc i) h =
    let e : 2 * suc i ≡ suc (suc (2 * i)) = omega arith in
    let f : suc (suc (2 * i)) + 1 ≡ suc (suc (2 * i + 1)) = omega arith in
    rw (e, f) (hex_at w i (omega arith))

-- ---- the loop over the digits

pub joined_next : (v : ℕ) (w : List ℕ) (i : ℕ) → i < length w → joined v (drop i w) ≡ joined (10 * v + decimal_value (get_or w i 0) % 10) (drop (i + 1) w)
unfolding joined
joined_next v w i h = rw (add-one, drop-cons w i 0)

pub joined_done : (v : ℕ) (w : List ℕ) (i : ℕ) → length w ≤ i → joined v (drop i w) ≡ v
unfolding joined
joined_done v w i h = rw (drop_of_length-le w h)

-- i digits make a number below 10 ^ i
pub digit_more : (v d i : ℕ) → v < 10 ^ i → d < 10 → 10 * v + d < 10 ^ (i + 1)
digit_more v d i h l = rw (add-one, pow-suc) (omega arith)

pub digit_room : (k i v : ℕ) → i ≤ k → v < 10 ^ i → v < 10 ^ k
digit_room zero i v l h = let e : i ≡ 0 = omega arith in rw e at h
digit_room (suc k) i v l h = go (leb i k) refl (λ m. digit_room k i v m h)
  where
    go : (b : Bool) → leb i k ≡ b → (i ≤ k → v < 10 ^ k) → v < 10 ^ suc k
    go true e less = rw pow-suc (omega (arith, less (leb-true i k e)))
    go false e less = let q : i ≡ suc k = omega (arith, leb-false i k e) in rw q at h
