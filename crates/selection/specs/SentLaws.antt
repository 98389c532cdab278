-- How a selection's frames are put together. Assumes nothing.
use Rattle.std.specs.Prelude.{◌≡◌, refl, Bool, true, false, List, [], ◌∷◌, ◌++◌, ℕ, zero, suc, ◌^◌, ◌+◌, ◌*◌, ◌/◌, ◌%◌, ◌≤◌, min, get_or, ltb}
use Rattle.std.proofs.Common.{sym, ap, ◌∙◌, pow-suc, mul_comm, mul_assoc, arith, length-append, take_all, ltb-true, ltb-false}
use Rattle.std.proofs.Math.ListN.{length, take, length-take}
use Rattle.rows.specs.Rows.{overlay}
use Rattle.rows.proofs.RowLaws.{overlay_next, overlay_all}
use Rattle.parity.specs.Bits.{bits_of}
use Rattle.crc.specs.Crc.{crc_bytes, with_crc}
use Rattle.frame.specs.Frame.{air_byte, standard}
use Rattle.frame.proofs.FrameLaws.{length_standard, standard_append}
use Rattle.selection.specs.Selection.{sel, nvb, cut, anticollision}
use Rattle.uid.specs.declared.Level.{Level}

-- a row over which a frame of its length is written is that frame
pub made : (r d l m : List ℕ) → length d ≡ 9 * length l → l ≡ m → r ≡ overlay d 0 (standard l) → r ≡ standard m
made r d l m n e q = q ∙ overlay_all d (standard l) (n ∙ sym (length_standard l)) ∙ ap standard e

-- .. and so in two parts
pub made_two : (r q d l m : List ℕ) (n : ℕ) → length d ≡ 9 * length l + 9 * length m → n ≡ 9 * length l → q ≡ overlay d 0 (standard l)
    → r ≡ overlay q n (standard m) → r ≡ standard (l ++ m)
made_two r q d l m n h k e f =
    let a : n ≡ 0 + length (standard l) = omega (arith, length_standard l) in
    f ∙ rw (e, a) (overlay_next d 0 (standard l) (standard m) (omega (arith, length_standard l, length_standard m)))
    ∙ overlay_all d (standard l ++ standard m) (rw (length-append, length_standard, length_standard) h) ∙ sym (standard_append l m)

-- bytes, and then the two bytes of their CRC_A
pub with_crc_law : (l crc : List ℕ) → crc ≡ crc_bytes l → l ++ (get_or crc 0 0 ∷ get_or crc 1 0 ∷ []) ≡ with_crc l
unfolding with_crc crc_bytes
with_crc_law l crc e = rw e

pub with_crc_whole : (l crc : List ℕ) → crc ≡ crc_bytes l → l ++ crc ≡ with_crc l
unfolding with_crc
with_crc_whole l crc e = rw e

pub five_list : (l : List ℕ) → length l ≡ 5 → get_or l 0 0 ∷ get_or l 1 0 ∷ get_or l 2 0 ∷ get_or l 3 0 ∷ get_or l 4 0 ∷ [] ≡ l
five_list [] h = absurd (omega arith)
five_list (a ∷ []) h = absurd (omega arith)
five_list (a ∷ b ∷ []) h = absurd (omega arith)
five_list (a ∷ b ∷ c ∷ []) h = absurd (omega arith)
five_list (a ∷ b ∷ c ∷ d ∷ []) h = absurd (omega arith)
five_list (a ∷ b ∷ c ∷ d ∷ e ∷ []) h = refl
five_list (a ∷ b ∷ c ∷ d ∷ e ∷ f ∷ l) h = absurd (omega arith)

-- ---- ANTICOLLISION

-- bits past the width do not count
high_bits : (n b q : ℕ) → bits_of n (b + 2 ^ n * q) ≡ bits_of n b
unfolding bits_of
high_bits zero b q = refl
high_bits (suc n) b q =
    let t : 2 ^ suc n * q ≡ 2 * (2 ^ n * q) = rw (pow-suc, mul_comm (2 ^ n) 2, mul_assoc) in
    let e₁ : (b + 2 ^ suc n * q) % 2 ≡ b % 2 = omega (arith, t) in
    let e₂ : (b + 2 ^ suc n * q) / 2 ≡ b / 2 + 2 ^ n * q = omega (arith, t) in
    rw (e₁, e₂) (ap (λ l. b % 2 ∷ l) (high_bits n (b / 2) q))

-- a byte is the low eight bits of a number
byte_low : (b : ℕ) → bits_of 8 (b % 256) ≡ bits_of 8 b
byte_low b =
    let e : b ≡ b % 256 + 256 * (b / 256) = omega arith in
    sym (high_bits 8 (b % 256) (b / 256)) ∙ ap (bits_of 8) (sym e)

head_low : (a b : ℕ) → standard (a ∷ b % 256 ∷ []) ≡ standard (a ∷ b ∷ [])
unfolding standard air_byte
head_low a b = rw (byte_low b)

-- no more than the whole level is sent
pub take_most : (n : ℕ) (s : List ℕ) → length s ≡ 45 → take (min n 45) s ≡ take n s
take_most n s h = go (ltb n 45) refl
  where
    go : (b : Bool) → ltb n 45 ≡ b → take (min n 45) s ≡ take n s
    go true e = let m : min n 45 ≡ n = omega (arith, ltb-true n 45 e) in rw m
    go false e =
        let l : 45 ≤ n = ltb-false n 45 e in
        let m : min n 45 ≡ 45 = omega arith in
        rw (m, take_all 45 s (omega arith), take_all n s (omega arith))

module _ (l : Level) (k : ℕ) (five : List ℕ) (h : length five ≡ 5) where
  five_row : length (standard five) ≡ 45
  five_row = rw (length_standard, h)

  pub anti_length : length (anticollision l k five) ≡ 18 + min (cut k) 45
  unfolding anticollision
  anti_length = rw (length-append, length_standard, length-take, five_row)

  -- SEL and NVB, and behind them the known part of the level's row
  pub anti_made : (out o r level : List ℕ) (s b n : ℕ) → 63 ≤ length out → s ≡ sel l → b ≡ nvb k % 256 → n ≡ min (cut k) 45 → level ≡ standard five
      → o ≡ overlay out 0 (standard (s ∷ b ∷ [])) → r ≡ overlay o 18 (take n level) → r ≡ overlay out 0 (anticollision l k five)
  unfolding anticollision
  anti_made out o r level s b n room es eb en el eo er =
      let t : take n level ≡ take (cut k) (standard five) = rw (en, el) (take_most (cut k) (standard five) five_row) in
      let p : length (standard (sel l ∷ nvb k ∷ [])) ≡ 18 = length_standard (sel l ∷ nvb k ∷ []) in
      let q : length (take (cut k) (standard five)) ≤ 45 = rw (length-take, five_row) (omega arith) in
      let a : 18 ≡ 0 + length (standard (sel l ∷ nvb k ∷ [])) = omega (arith, p) in
      er ∙ rw (eo, t, es, eb, head_low (sel l) (nvb k), a) (overlay_next out 0 (standard (sel l ∷ nvb k ∷ [])) (take (cut k) (standard five)) (omega (arith, p, q)))

pub crc_two : (l : List ℕ) → 81 ≡ 9 * 7 + 9 * length (crc_bytes l)
unfolding crc_bytes
crc_two l = refl
