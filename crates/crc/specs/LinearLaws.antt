-- The register's steps are linear: what they make of an exclusive or is the exclusive or of what they make of its parts. So the steps of a byte
-- split at the byte's end, those of any bits by half bytes, and those of eight bytes into what they make of the register and the CRC of the bytes.
-- Assumes nothing.
use Rattle.std.specs.Prelude.{◌≡◌, refl, Bool, true, false, cond, List, [], ◌∷◌, ◌++◌, ℕ, zero, suc, ◌+◌, ◌-◌, ◌*◌, ◌/◌, ◌%◌, ◌≤◌, ◌<◌, eqb, length, take, drop}
use Rattle.std.proofs.Common.{sym, ap, ◌∙◌, arith, suc-add, length-drop, take-append-drop, length-take-le, drop-drop}
use Rattle.std.specs.Int.Bits.{bit_xor, xor_shifted, xor_zero_r}
use Rattle.std.proofs.lemmas.Nat.{xor_mod, xor_comm}
use Rattle.crc.specs.Crc.{shift, shifts, crc_byte, crc_from}
use Rattle.crc.specs.XorLaws.{xor_half, xor_assoc, xor_twice}

-- ---- one bit

differs : Bool → Bool → Bool
differs true true = false
differs true false = true
differs false b = b

mixed : (p x y : ℕ) (a b : Bool) → cond (differs a b) (bit_xor (bit_xor x y) p) (bit_xor x y) ≡ bit_xor (cond a (bit_xor x p) x) (cond b (bit_xor y p) y)
unfolding differs
mixed p x y true true = rw (xor_assoc x p (bit_xor y p), xor_comm y p, xor_twice p y)
mixed p x y true false = rw (xor_assoc x y p, xor_comm y p, xor_assoc x p y)
mixed p x y false true = xor_assoc x y p
mixed p x y false false = refl

odd_xor : (x y : ℕ) → eqb (bit_xor x y % 2) 1 ≡ differs (eqb (x % 2) 1) (eqb (y % 2) 1)
unfolding differs
odd_xor x y = rw (xor_mod x y 1) (go (x % 2) (y % 2) (omega arith) (omega arith))
  where
    go : (a b : ℕ) → a < 2 → b < 2 → eqb (bit_xor a b) 1 ≡ differs (eqb a 1) (eqb b 1)
    go zero b h k = refl
    go (suc zero) zero h k = refl
    go (suc zero) (suc zero) h k = refl
    go (suc zero) (suc (suc b)) h k = absurd (omega arith)
    go (suc (suc a)) b h k = absurd (omega arith)

shift_xor : (x y : ℕ) → shift (bit_xor x y) ≡ bit_xor (shift x) (shift y)
unfolding shift
shift_xor x y = rw (odd_xor x y, xor_half x y) (mixed 0x8408 (x / 2) (y / 2) (eqb (x % 2) 1) (eqb (y % 2) 1))

-- ---- several bits

shifts_xor : (n x y : ℕ) → shifts n (bit_xor x y) ≡ bit_xor (shifts n x) (shifts n y)
unfolding shifts
shifts_xor zero x y = refl
shifts_xor (suc n) x y = rw (shift_xor x y) (shifts_xor n (shift x) (shift y))

shifts_add : (m n c : ℕ) → shifts (m + n) c ≡ shifts n (shifts m c)
unfolding shifts
shifts_add zero n c = let e : 0 + n ≡ n = omega arith in rw e
shifts_add (suc m) n c = rw (suc-add m n) (shifts_add m n (shift c))

shift_even : (c : ℕ) → shift (c * 2) ≡ c
unfolding shift
shift_even c =
    let e : c * 2 % 2 ≡ 0 = omega arith in
    let h : c * 2 / 2 ≡ c = omega arith in
    rw (e, h)

shifts_even : (c : ℕ) → shifts 8 (c * 256) ≡ c
unfolding shifts
shifts_even c = let e : c * 256 ≡ c * 2 * 2 * 2 * 2 * 2 * 2 * 2 * 2 = omega arith in rw e (simp shift_even)

-- a byte's bits: the table's entry for the register's low byte, and its high byte moved down
pub shifts_byte : (c : ℕ) → shifts 8 c ≡ bit_xor (shifts 8 (c % 256)) (c / 256)
shifts_byte c =
    let e : bit_xor (c / 256 * 256) (c % 256) ≡ c = xor_shifted (c / 256) 8 (c % 256) (omega arith) ∙ omega arith in
    ap (shifts 8) (sym e) ∙ shifts_xor 8 (c / 256 * 256) (c % 256) ∙ rw (shifts_even (c / 256)) (xor_comm (c / 256) (shifts 8 (c % 256)))

-- .. two bytes' bits: the second table's entry for the low byte, the first one's for the high byte
pub shifts_pair : (c : ℕ) → shifts 16 c ≡ bit_xor (shifts 16 (c % 256)) (shifts 8 (c / 256))
shifts_pair c =
    shifts_add 8 8 c ∙ ap (shifts 8) (shifts_byte c) ∙ shifts_xor 8 (shifts 8 (c % 256)) (c / 256) ∙ rw (← shifts_add 8 8 (c % 256))

-- two steps of a byte are one of sixteen bits
pub pair_shifts : (c a b : ℕ) → a < 256 → crc_byte (crc_byte c a) b ≡ shifts 16 (bit_xor c (a + b * 256))
unfolding crc_byte
pair_shifts c a b h =
    let e : bit_xor a (b * 256) ≡ a + b * 256 = xor_comm a (b * 256) ∙ xor_shifted b 8 a h ∙ omega arith in
    ap (λ x. shifts 8 (bit_xor (shifts 8 (bit_xor c a)) x)) (sym (shifts_even b)) ∙ ap (shifts 8) (sym (shifts_xor 8 (bit_xor c a) (b * 256)))
    ∙ sym (shifts_add 8 8 (bit_xor (bit_xor c a) (b * 256))) ∙ rw (xor_assoc c a (b * 256), e)

-- n bits by the register's four half bytes
pub shifts_halves : (n c : ℕ) → shifts n c
    ≡ bit_xor (bit_xor (bit_xor (shifts n (c % 16)) (shifts n (c / 16 % 16 * 16))) (shifts n (c / 256 % 16 * 256))) (shifts n (c / 4096 * 4096))
shifts_halves n c =
    let p : bit_xor (c % 16) (c / 16 % 16 * 16) ≡ c % 256 = xor_comm (c % 16) (c / 16 % 16 * 16) ∙ xor_shifted (c / 16 % 16) 4 (c % 16) (omega arith) ∙ omega arith in
    let q : bit_xor (c % 256) (c / 256 % 16 * 256) ≡ c % 4096 = xor_comm (c % 256) (c / 256 % 16 * 256) ∙ xor_shifted (c / 256 % 16) 8 (c % 256) (omega arith) ∙ omega arith in
    let r : bit_xor (c % 4096) (c / 4096 * 4096) ≡ c = xor_comm (c % 4096) (c / 4096 * 4096) ∙ xor_shifted (c / 4096) 12 (c % 4096) (omega arith) ∙ omega arith in
    ap (shifts n) (sym r) ∙ shifts_xor n (c % 4096) (c / 4096 * 4096)
    ∙ ap (λ x. bit_xor x (shifts n (c / 4096 * 4096)))
    (ap (shifts n) (sym q) ∙ shifts_xor n (c % 256) (c / 256 % 16 * 256)
    ∙ ap (λ x. bit_xor x (shifts n (c / 256 % 16 * 256))) (ap (shifts n) (sym p) ∙ shifts_xor n (c % 16) (c / 16 % 16 * 16)))

-- ---- bytes

-- bytes over a register that is an exclusive or: zeros over the one part, the bytes over the other
from_xor : (c d : ℕ) (l : List ℕ) → crc_from (bit_xor c d) l ≡ bit_xor (shifts (length l * 8) c) (crc_from d l)
unfolding crc_from shifts crc_byte
from_xor c d [] = refl
from_xor c d (b ∷ l) =
    let e : suc (length l) * 8 ≡ 8 + length l * 8 = omega arith in
    rw (xor_assoc c d b, shifts_xor 8 c (bit_xor d b), e, shifts_add 8 (length l * 8) c) (from_xor (shifts 8 c) (shifts 8 (bit_xor d b)) l)

from_append : (c : ℕ) (l m : List ℕ) → crc_from c (l ++ m) ≡ crc_from (crc_from c l) m
unfolding crc_from
from_append c [] m = refl
from_append c (b ∷ l) m = from_append (crc_byte c b) l m

-- the loop over bytes, eight at a time
pub eight_next : (bs : List ℕ) (i c : ℕ) → i + 8 ≤ length bs
    → crc_from c (drop i bs) ≡ crc_from (bit_xor (shifts 64 c) (crc_from 0 (take (i + 8 - i) (drop i bs)))) (drop (i + 8) bs)
eight_next bs i c h =
    let e : i + 8 - i ≡ 8 = omega arith in
    let l : List ℕ = take 8 (drop i bs) in
    let k : length l ≡ 8 = length-take-le 8 (drop i bs) (rw length-drop (omega arith)) in
    ap (crc_from c) (sym (take-append-drop 8 (drop i bs))) ∙ from_append c l (drop 8 (drop i bs))
    ∙ rw (e, drop-drop 8 i bs) (ap (λ x. crc_from x (drop (i + 8) bs)) (ap (λ x. crc_from x l) (sym (xor_zero_r c)) ∙ from_xor c 0 l ∙ rw k))
