-- A level's last byte is the check byte of its four others, over bytes and over bits. Assumes nothing.
use Rattle.std.specs.Prelude.{◌≡◌, ℕ, suc, ◌*◌, ◌≤◌, ◌<◌, true, List, [], ◌∷◌, ◌++◌, length, take}
use Rattle.std.proofs.Common.{sym, ap, ◌∙◌, length-append, length-take, take_at, arith}
use Rattle.std.proofs.lemmas.Nat.{xor_lt}
use Rattle.rows.specs.ListLaws.{all_append, all_take_law, same_refl}
use Rattle.rows.specs.Rows.{Bytes, Bits, same}
use Rattle.parity.specs.Bits.{bits_of}
use Rattle.frame.specs.ByteLaws.{bytes_bits, length_air_bits, air_bits_append, air_bits_one, bytes_fit, length_bytes, bits_bytes_all}
use Rattle.frame.specs.Frame.{air_bits, bytes_of}
use Rattle.uid.specs.LevelLaws.{wide, lev}
use Rattle.uid.specs.Uid.{check, level}

check_fits : (l : List ℕ) → Bytes l → check l < 256
unfolding check
check_fits [] h = omega arith
check_fits (b ∷ l) h = xor_lt 8 b (check l) h.0 (check_fits l h.1)

-- five bytes, the last checks the others
pub record Five (five : List ℕ) : Type 0 where
  pub fits : Bytes five
  pub full : length five ≡ 5
  pub checks : five ≡ level (take 4 five)

pub five_is : (l : List ℕ) → Bytes l → length l ≡ 4 → Five (level l)
unfolding level
five_is l h e = record {
  fits = all_append (λ b. b < 256) l (check l ∷ []) h (check_fits l h, tt);
  full = rw (length-append, e);
  checks = rw (take_at l (check l ∷ []) 4 e);
}

pub take_level : (l : List ℕ) → length l ≡ 4 → take 4 (level l) ≡ l
unfolding level
take_level l e = take_at l (check l ∷ []) 4 e

air_bits_level : (l : List ℕ) → air_bits (level l) ≡ air_bits l ++ bits_of 8 (check l)
unfolding level
air_bits_level l = air_bits_append l (check l ∷ []) ∙ ap (λ t. air_bits l ++ t) (air_bits_one (check l))

-- the check byte over the bits of a level
unfoldable pub check_of : List ℕ → List ℕ
check_of y = bits_of 8 (check (bytes_of 4 y))

pub five_checked : (five : List ℕ) → Five five → air_bits five ≡ take 32 (air_bits five) ++ check_of (take 32 (air_bits five))
unfolding check_of
five_checked five f =
    let l : List ℕ = take 4 five in
    let n : length l ≡ 4 = rw (length-take, f.full) in
    let e : air_bits five ≡ air_bits l ++ bits_of 8 (check l) = ap air_bits f.checks ∙ air_bits_level l in
    let t : take 32 (air_bits five) ≡ air_bits l = ap (take 32) e ∙ take_at (air_bits l) (bits_of 8 (check l)) 32 (rw (length_air_bits, n)) in
    let b : bytes_of 4 (air_bits l) ≡ l = ap (λ k. bytes_of k (air_bits l)) (sym n) ∙ bytes_bits l (all_take_law (λ b. b < 256) 4 five f.fits) in
    rw (t, b) e

-- a level that its last byte checks
checked_bytes : (y : List ℕ) → Bits y → length y ≡ 32 → bytes_of 5 (y ++ check_of y) ≡ level (bytes_of 4 y)
unfolding check_of
checked_bytes y b h =
    let l : List ℕ = bytes_of 4 y in
    let f : Five (level l) = five_is l (bytes_fit 4 y b) (length_bytes 4 y) in
    let e : air_bits (level l) ≡ y ++ bits_of 8 (check l) = air_bits_level l ∙ ap (λ r. r ++ bits_of 8 (check l)) (bits_bytes_all 4 y b h) in
    ap (bytes_of 5) (sym e) ∙ ap (λ k. bytes_of k (air_bits (level l))) (sym f.full) ∙ bytes_bits (level l) f.fits

pub check_holds : (d y : List ℕ) → d ≡ y ++ check_of y → Bits y → length y ≡ 32 → same (bytes_of 5 d) (level (take 4 (bytes_of 5 d))) ≡ true
check_holds d y e b h =
    let l : bytes_of 5 d ≡ level (bytes_of 4 y) = ap (bytes_of 5) e ∙ checked_bytes y b h in
    rw (l, take_level (bytes_of 4 y) (length_bytes 4 y)) (same_refl (level (bytes_of 4 y)))

-- in each whole level of a row the last byte checks the others
abbrev pub Checked : List ℕ → Type 0
Checked r = (j : ℕ) → wide * suc j ≤ length r → lev j r ≡ take 32 (lev j r) ++ check_of (take 32 (lev j r))
