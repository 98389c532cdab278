-- Laws for the loops over bits: one turn, and the end. Over the width. Assumes nothing.
use Rattle.std.specs.Prelude.{◌≡◌, true, List, [], ◌∷◌, ◌++◌, ℕ, suc, ◌+◌, ◌-◌, ◌*◌, ◌/◌, ◌%◌, ◌≤◌, ◌<◌, length, take, drop, get_or, set}
use Rattle.std.proofs.Common.{sym, ap, ◌∙◌, append_assoc, length-append, append-nil, add-one, arith, length-drop, drop_of_length-le, drop-cons, take-suc-set, take_all}
use Rattle.rows.specs.Rows.{clean}
use Rattle.rows.specs.EachLaws.{bits_right}
use Rattle.rows.specs.HeardLaws.{clean_bits, clean_drop}
use Rattle.parity.specs.Bits.{bits_of, unbits, odd}
use Rattle.parity.specs.BitLaws.{unbits_lt}

-- ---- a number's bits, stored one after the other

pub bits_next : (k i x : ℕ) (l : List ℕ) → i < k → i < length l
    → take (i + 1) (set l i (x % 2)) ++ bits_of (k - (i + 1)) (x / 2) ≡ take i l ++ bits_of (k - i) x
unfolding bits_of
bits_next k i x l h m =
    let e : k - i ≡ suc (k - (i + 1)) = omega arith in
    rw (e, add-one, take-suc-set l i (x % 2) m, append_assoc)

pub bits_done : (k i x : ℕ) (l : List ℕ) → k ≤ i → length l ≤ i → take i l ++ bits_of (k - i) x ≡ l
unfolding bits_of
bits_done k i x l h m =
    let e : k - i ≡ 0 = omega arith in
    rw (e, append-nil, take_all i l m)

-- ---- the number of a row, from its last bit on

unbits_from : (l : List ℕ) (k i : ℕ) → i ≡ suc k → k < length l → 2 * unbits (drop i l) + get_or l k 0 ≡ unbits (drop k l)
unfolding unbits
unbits_from l k i e h = rw (e, drop-cons l k 0) (omega arith)

pub unbits_next : (l : List ℕ) (i : ℕ) → 0 < i → i ≤ length l → 2 * unbits (drop i l) + get_or l (i - 1) 0 ≡ unbits (drop (i - 1) l)
unbits_next l i z h = unbits_from l (i - 1) i (omega arith) (omega arith)

pub unbits_done : (l : List ℕ) (i : ℕ) → length l ≤ i → unbits (drop i l) ≡ 0
unfolding unbits
unbits_done l i h = rw (drop_of_length-le l h)

-- the last bits of a byte are a byte
pub unbits_byte : (l : List ℕ) (i : ℕ) → (length l ≤ 8) × (clean l ≡ true) → unbits (drop i l) < 256
unbits_byte l i p = unbits_lt 8 (drop i l) (clean_bits (drop i l) (clean_drop i l p.1)) (rw length-drop (omega (arith, p.0)))

-- .. however the bits are parted
pub unbits_part : (l p t : List ℕ) → (length l ≤ 8) × (clean l ≡ true) → p ++ t ≡ l → unbits t < 256
unbits_part l p t h e =
    let n : length (p ++ t) ≡ length l = ap length e in
    unbits_lt 8 t (bits_right p t (rw e (clean_bits l h.1))) (omega (arith, rw length-append at n, h.0))

-- a bit more is taken from the end of those that are left
pub part_next : (l p q t : List ℕ) (x : ℕ) → p ≡ q ++ (x ∷ []) → p ++ t ≡ l → q ++ (x ∷ t) ≡ l
part_next l p q t x e h = sym (append_assoc q (x ∷ []) t) ∙ ap (λ r. r ++ t) (sym e) ∙ h

-- a parity bit is 0 or 1
pub odd_bit : (l : List ℕ) → odd l < 2
unfolding odd
odd_bit l = omega arith
