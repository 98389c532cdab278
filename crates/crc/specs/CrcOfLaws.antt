-- Laws of a CRC with any start value and end: those of CRC_B, and by the last part those of CRC_A. Assumes nothing.
use Rattle.std.specs.Prelude.{◌≡◌, refl, true, false, List, [], ◌∷◌, ◌++◌, ℕ, ◌+◌, ◌-◌, ◌<◌, length, take, drop}
use Rattle.std.proofs.Common.{sym, ap, ◌∙◌, arith, length-append, length-drop, take-append-drop, take_at, take_all}
use Rattle.std.specs.Int.Bits.{bit_xor, xor_zero_r}
use Rattle.std.proofs.lemmas.Nat.{xor_lt}
use Rattle.rows.specs.Rows.{same, Bytes}
use Rattle.rows.specs.ListLaws.{same_eq, same_append, same_length, all_append}
use Rattle.crc.specs.Crc.{crc_byte, crc_from, crc_a, crc_bytes, with_crc, crc_good}
use Rattle.crc.specs.CrcOf.{crc_of, sent_of, with_of, good_of}
use Rattle.crc.specs.CrcSizeLaws.{shifts_lt}

-- ---- a CRC is two bytes

crc_from_lt : (c : ℕ) (l : List ℕ) → c < 65536 → Bytes l → crc_from c l < 65536
unfolding crc_from crc_byte
crc_from_lt c [] h b = h
crc_from_lt c (x ∷ l) h b = crc_from_lt (crc_byte c x) l (shifts_lt 8 (bit_xor c x) (xor_lt 16 c x h (omega (arith, b.0)))) b.1

pub crc_of_lt : (s e : ℕ) (l : List ℕ) → s < 65536 → e < 65536 → Bytes l → crc_of s e l < 65536
unfolding crc_of
crc_of_lt s e l h k b = xor_lt 16 (crc_from s l) e (crc_from_lt s l h b) k

pub length_sent : (s e : ℕ) (l : List ℕ) → length (sent_of s e l) ≡ 2
unfolding sent_of
length_sent s e l = refl

pub length_with_of : (s e : ℕ) (l : List ℕ) → length (with_of s e l) ≡ length l + 2
unfolding with_of
length_with_of s e l = rw (length-append, length_sent)

pub with_of_bytes : (s e : ℕ) (l : List ℕ) → s < 65536 → e < 65536 → Bytes l → Bytes (with_of s e l)
unfolding with_of sent_of
with_of_bytes s e l h k b =
    let c : crc_of s e l < 65536 = crc_of_lt s e l h k b in
    all_append (λ x. x < 256) l (sent_of s e l) b (omega arith, (omega arith, tt))

-- ---- good bytes

-- a message with its CRC behind it, without the last two bytes
pub take_with_of : (s e : ℕ) (l : List ℕ) → take (length (with_of s e l) - 2) (with_of s e l) ≡ l
unfolding with_of
take_with_of s e l = take_at l (sent_of s e l) (length (with_of s e l) - 2) (rw length_with_of (omega arith))

-- .. is good
pub good_with_of : (s e : ℕ) (l : List ℕ) → good_of s e (with_of s e l) ≡ true
unfolding good_of
good_with_of s e l =
    same_eq (with_of s e l) (with_of s e (take (length (with_of s e l) - 2) (with_of s e l))) (ap (with_of s e) (sym (take_with_of s e l)))

-- whether bytes are good is whether their last two are the CRC of the others
pub good_last_of : (s e : ℕ) (l d : List ℕ) (n : ℕ) → n ≡ length l - 2 → d ≡ sent_of s e (take n l)
    → same (take (length l - n) (drop n l)) d ≡ good_of s e l
unfolding good_of with_of
good_last_of s e l d n f g =
    let p : List ℕ = take n l in
    rw (take_all (length l - n) (drop n l) (rw length-drop (omega arith)), g, ← f)
    (sym (same_append p (drop n l) (sent_of s e p)) ∙ ap (λ r. same r (p ++ sent_of s e p)) (take-append-drop n l))

pub good_short_of : (s e : ℕ) (l : List ℕ) → length l < 2 → good_of s e l ≡ false
unfolding good_of
good_short_of s e l h =
    same_length l (with_of s e (take (length l - 2) l)) (λ q. omega (arith, length_with_of s e (take (length l - 2) l)))

-- ---- CRC_A is the one that starts as 6363 and is not inverted

pub of_a : (l : List ℕ) → crc_of 0x6363 0 l ≡ crc_a l
unfolding crc_of crc_a
of_a l = xor_zero_r (crc_from 0x6363 l)

pub sent_a : (l : List ℕ) → sent_of 0x6363 0 l ≡ crc_bytes l
unfolding sent_of crc_bytes
sent_a l = rw of_a

pub with_a : (l : List ℕ) → with_of 0x6363 0 l ≡ with_crc l
unfolding with_of with_crc
with_a l = rw sent_a

pub good_a : (l : List ℕ) → good_of 0x6363 0 l ≡ crc_good l
unfolding good_of crc_good
good_a l = rw with_a
