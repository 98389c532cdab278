-- Bytes and their bits in air order, there and back. Assumes nothing.
use Rattle.std.specs.Prelude.{◌≡◌, refl, ℕ, zero, suc, ◌+◌, ◌*◌, ◌<◌, ◌-◌, ◌≤◌, min, Bool, true, false, List, [], ◌∷◌, ◌++◌, length, take, drop, replicate, ltb}
use Rattle.std.proofs.Common.{sym, ap, ◌∙◌, append_assoc, append-nil, length-append, length-take, length-drop, take-append-drop, drop_of_length-le, take_at, drop_at, take_all, ltb-true, ltb-false, arith}
use Rattle.std.proofs.lemmas.List.{replicate-append-replicate}
use Rattle.std.proofs.Math.Seq.{take-append_seam}
use Rattle.rows.specs.ListLaws.{all_take_law, all_drop, all_append}
use Rattle.rows.specs.Rows.{Bits, fill, Bytes}
use Rattle.parity.specs.BitLaws.{length_bits, unbits_bits, bits_unbits, unbits_lt, bits_bits}
use Rattle.parity.specs.Bits.{bits_of}
use Rattle.frame.specs.Frame.{air_bits, bytes_of}

pub length_air_bits : (l : List ℕ) → length (air_bits l) ≡ 8 * length l
unfolding air_bits
length_air_bits [] = refl
length_air_bits (b ∷ l) = rw (length-append, length_bits, length_air_bits l) (omega arith)

pub bits_air_bits : (l : List ℕ) → Bits (air_bits l)
unfolding air_bits
bits_air_bits [] = tt
bits_air_bits (b ∷ l) = all_append (λ x. x < 2) (bits_of 8 b) (air_bits l) (bits_bits 8 b) (bits_air_bits l)

pub air_bits_append : (l m : List ℕ) → air_bits (l ++ m) ≡ air_bits l ++ air_bits m
unfolding air_bits
air_bits_append [] m = refl
air_bits_append (b ∷ l) m = ap (λ t. bits_of 8 b ++ t) (air_bits_append l m) ∙ sym (append_assoc (bits_of 8 b) (air_bits l) (air_bits m))

pub air_bits_one : (x : ℕ) → air_bits (x ∷ []) ≡ bits_of 8 x
unfolding air_bits
air_bits_one x = append-nil (bits_of 8 x)

pub first_byte_law : (b : ℕ) (l : List ℕ) → take 8 (air_bits (b ∷ l)) ≡ bits_of 8 b
unfolding air_bits
first_byte_law b l = take_at (bits_of 8 b) (air_bits l) 8 (length_bits 8 b)

-- the bytes of a row of bytes
pub bytes_bits : (l : List ℕ) → Bytes l → bytes_of (length l) (air_bits l) ≡ l
unfolding bytes_of air_bits
bytes_bits [] h = refl
bytes_bits (b ∷ l) h =
    rw (take_at (bits_of 8 b) (air_bits l) 8 (length_bits 8 b), drop_at (bits_of 8 b) (air_bits l) 8 (length_bits 8 b), unbits_bits 8 b h.0, bytes_bits l h.1)

fill_split : (n : ℕ) (d : List ℕ) → length d ≤ 8 * suc n
    → take 8 d ++ replicate (8 - min 8 (length d)) 0 ++ (drop 8 d ++ replicate (8 * n - (length d - 8)) 0) ≡ d ++ replicate (8 * suc n - length d) 0
fill_split n d h = go (ltb (length d) 8) refl
  where
    go : (b : Bool) → ltb (length d) 8 ≡ b
        → take 8 d ++ replicate (8 - min 8 (length d)) 0 ++ (drop 8 d ++ replicate (8 * n - (length d - 8)) 0) ≡ d ++ replicate (8 * suc n - length d) 0
    go true e =
        let l : length d < 8 = ltb-true (length d) 8 e in
        let e₁ : 8 - min 8 (length d) ≡ 8 - length d = omega arith in
        let e₂ : 8 * suc n - length d ≡ 8 - length d + (8 * n - (length d - 8)) = omega arith in
        rw (take_all 8 d (omega arith), drop_of_length-le d {i = 8} (omega arith), e₁, e₂, append_assoc, replicate-append-replicate)
    go false e =
        let l : 8 ≤ length d = ltb-false (length d) 8 e in
        let e₁ : 8 - min 8 (length d) ≡ 0 = omega arith in
        let e₂ : 8 * n - (length d - 8) ≡ 8 * suc n - length d = omega arith in
        rw (e₁, e₂, append-nil, ← append_assoc (take 8 d) (drop 8 d) (replicate (8 * suc n - length d) 0), take-append-drop)

-- the bits of a row's bytes: the row, zeros behind
pub bits_bytes : (n : ℕ) (d : List ℕ) → Bits d → length d ≤ 8 * n → air_bits (bytes_of n d) ≡ fill (8 * n) d
unfolding air_bits bytes_of fill
bits_bytes zero [] b h = refl
bits_bytes zero (x ∷ d) b h = absurd (omega arith)
bits_bytes (suc n) d b h =
    rw (bits_unbits 8 (take 8 d) (all_take_law (λ x. x < 2) 8 d b) (rw length-take (omega arith)), bits_bytes n (drop 8 d) (all_drop (λ x. x < 2) 8 d b) (rw length-drop (omega arith)), length-take, length-drop)
    (fill_split n d h)

-- the first k bits of a row's bytes
pub bits_bytes_take : (n : ℕ) (d : List ℕ) → Bits d → length d ≤ 8 * n → take (length d) (air_bits (bytes_of n d)) ≡ d
unfolding fill
bits_bytes_take n d b h = rw (bits_bytes n d b h) (take-append_seam d (replicate (8 * n - length d) 0))

-- all of them
pub bits_bytes_all : (n : ℕ) (d : List ℕ) → Bits d → length d ≡ 8 * n → air_bits (bytes_of n d) ≡ d
unfolding fill
bits_bytes_all n d b h = let e : 8 * n - length d ≡ 0 = omega arith in rw (bits_bytes n d b (omega arith), e, append-nil)

pub bytes_fit : (n : ℕ) (d : List ℕ) → Bits d → Bytes (bytes_of n d)
unfolding bytes_of
bytes_fit zero d b = tt
bytes_fit (suc n) d b = (unbits_lt 8 (take 8 d) (all_take_law (λ x. x < 2) 8 d b) (rw length-take (omega arith)), bytes_fit n (drop 8 d) (all_drop (λ x. x < 2) 8 d b))

pub length_bytes : (n : ℕ) (d : List ℕ) → length (bytes_of n d) ≡ n
unfolding bytes_of
length_bytes zero d = refl
length_bytes (suc n) d = ap suc (length_bytes n (drop 8 d))
