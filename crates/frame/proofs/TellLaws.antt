-- A standard frame tells its bytes, and bytes with their CRC_A are bytes. Assumes nothing.
use Rattle.std.specs.Prelude.{◌≡◌, refl, ℕ, ◌-◌, ◌/◌, ◌%◌, ◌<◌, true, List, [], ◌∷◌, ◌++◌, length, take}
use Rattle.std.proofs.Common.{sym, ap₂, ◌∙◌, length-append, arith}
use Rattle.std.proofs.Math.Path.{ap}
use Rattle.std.proofs.Math.Seq.{take_at}
use Rattle.rows.specs.EachLaws.{parts_equal}
use Rattle.rows.specs.ListLaws.{all_append, same_eq}
use Rattle.rows.specs.Rows.{Bytes, same}
use Rattle.parity.specs.BitLaws.{length_bits, unbits_bits}
use Rattle.parity.specs.Bits.{bits_of, unbits, odd}
use Rattle.crc.specs.Crc.{crc_from, crc_a, crc_byte, crc_bytes, with_crc}
use Rattle.crc.specs.CrcLaws.{length_with}
use Rattle.crc.specs.CrcSizeLaws.{crc_byte_lt}
use Rattle.frame.specs.Frame.{air_byte, standard, air_bits}
use Rattle.frame.proofs.FrameLaws.{length_air_byte}

byte_tells : (b c : ℕ) → air_byte b ≡ air_byte c → bits_of 8 b ≡ bits_of 8 c
unfolding air_byte
byte_tells b c e = (parts_equal 8 (bits_of 8 b) (bits_of 8 c) (odd (bits_of 8 b) ∷ []) (odd (bits_of 8 c) ∷ []) (length_bits 8 b) (length_bits 8 c) e).0

-- the data bits
pub standard_bits : (l m : List ℕ) → standard l ≡ standard m → air_bits l ≡ air_bits m
unfolding standard air_bits
standard_bits [] [] e = refl
standard_bits [] (c ∷ m) e = absurd (omega (arith, ap length e, length-append (air_byte c) (standard m), length_air_byte c))
standard_bits (b ∷ l) [] e = absurd (omega (arith, ap length e, length-append (air_byte b) (standard l), length_air_byte b))
standard_bits (b ∷ l) (c ∷ m) e =
    let p : (air_byte b ≡ air_byte c) × (standard l ≡ standard m) = parts_equal 9 (air_byte b) (air_byte c) (standard l) (standard m) (length_air_byte b) (length_air_byte c) e in
    ap₂ ◌++◌ (byte_tells b c p.0) (standard_bits l m p.1)

-- the bytes
pub standard_bytes : (l m : List ℕ) → Bytes l → Bytes m → standard l ≡ standard m → l ≡ m
unfolding standard
standard_bytes [] [] h k e = refl
standard_bytes [] (c ∷ m) h k e = absurd (omega (arith, ap length e, length-append (air_byte c) (standard m), length_air_byte c))
standard_bytes (b ∷ l) [] h k e = absurd (omega (arith, ap length e, length-append (air_byte b) (standard l), length_air_byte b))
standard_bytes (b ∷ l) (c ∷ m) h k e =
    let p : (air_byte b ≡ air_byte c) × (standard l ≡ standard m) = parts_equal 9 (air_byte b) (air_byte c) (standard l) (standard m) (length_air_byte b) (length_air_byte c) e in
    ap₂ ◌∷◌ (sym (unbits_bits 8 b h.0) ∙ ap unbits (byte_tells b c p.0) ∙ unbits_bits 8 c k.0) (standard_bytes l m h.1 k.1 p.1)

-- ---- with CRC_A

crc_lt : (l : List ℕ) (c : ℕ) → Bytes l → c < 65536 → crc_from c l < 65536
unfolding crc_from
crc_lt [] c h k = k
crc_lt (b ∷ l) c h k = crc_lt l (crc_byte c b) h.1 (crc_byte_lt c b k h.0)

pub bytes_crc : (l : List ℕ) → Bytes l → Bytes (with_crc l)
unfolding with_crc crc_bytes crc_a
bytes_crc l h =
    let k : crc_from 0x6363 l < 65536 = crc_lt l 0x6363 h (omega arith) in
    all_append (λ b. b < 256) l (crc_from 0x6363 l % 256 ∷ crc_from 0x6363 l / 256 ∷ []) h (omega arith, (omega arith, tt))

-- the last two bytes are the CRC_A of those before
pub crc_right : (l m : List ℕ) → l ≡ with_crc m → same l (with_crc (take (length l - 2) l)) ≡ true
crc_right l m e =
    let n : length l - 2 ≡ length m = rw (e, length_with m) (omega arith) in
    let t : take (length l - 2) l ≡ m = ap₂ take n e ∙ (unfold with_crc in take_at m (crc_bytes m) (length m) refl) in
    same_eq l (with_crc (take (length l - 2) l)) (e ∙ ap with_crc (sym t))
