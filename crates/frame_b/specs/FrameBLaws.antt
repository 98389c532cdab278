-- Laws of Type B's frames: what is written is read back, what is read is what was written, and a frame tells its bytes. Assumes nothing.
use Rattle.std.proofs.Math.Path.{◌≡◌, sym, ap}
use Rattle.std.specs.Prelude.{refl, ℕ, ◌+◌, ◌-◌, ◌*◌, ◌<◌, Bool, cond, not, List, [], ◌∷◌, ◌++◌, length, take, drop, eqb}
use Rattle.std.proofs.Common.{◌∙◌, append_assoc, take_at, drop_at, eqb-true, eq-eqb, arith}
use Rattle.std.proofs.Math.Bool.{true, false}
use Rattle.rows.specs.Rows.{Bits, Bytes, clean}
use Rattle.rows.specs.HeardLaws.{clean_bits}
use Rattle.rows.specs.CleanLaws.{bits_clean}
use Rattle.parity.specs.Bits.{bits_of}
use Rattle.parity.specs.BitLaws.{length_bits, unbits_bits}
use Rattle.crc.specs.CrcOf.{with_of, good_of, crc_bytes_b, with_crc_b, crc_good_b}
use Rattle.crc.specs.CrcOfLaws.{length_with_of, with_of_bytes, take_with_of, good_with_of}
use Rattle.rows.specs.ListLaws.{same_sound}
use Rattle.frame.specs.Frame.{air_bits, bytes_of, Good, Fault}
use Rattle.frame.specs.ByteLaws.{length_air_bits, bits_air_bits, air_bits_append, first_byte_law, bytes_bits, bits_bytes_all}
use Rattle.frame_b.specs.FrameB.{frame_b, byte_at, without_crc_b, read_b}
use Rattle.refusal.specs.declared.Refusal.TheVariants.{Length, Crc, Collision}

pub length_frame : (l : List ℕ) → length (frame_b l) ≡ 8 * (length l + 2)
unfolding frame_b
length_frame l = rw (length_air_bits, length_with_of)

pub bits_frame : (l : List ℕ) → Bits (frame_b l)
unfolding frame_b
bits_frame l = bits_air_bits (with_crc_b l)

pub clean_frame : (l : List ℕ) → clean (frame_b l) ≡ true
clean_frame l = bits_clean (frame_b l) (bits_frame l)

-- ---- what is written is read back

pub without_with : (l : List ℕ) → without_crc_b (with_crc_b l) ≡ Good l
unfolding without_crc_b
without_with l = rw (good_with_of 0xFFFF 0xFFFF l, take_with_of 0xFFFF 0xFFFF l)

pub bytes_frame : (n : ℕ) (l : List ℕ) → Bytes l → length l ≡ n → bytes_of (n + 2) (frame_b l) ≡ with_crc_b l
unfolding frame_b
bytes_frame n l b e =
    let z : n + 2 ≡ length (with_crc_b l) = rw (length_with_of, e) in
    rw z (bytes_bits (with_crc_b l) (with_of_bytes 0xFFFF 0xFFFF l (omega arith) (omega arith) b))

pub read_frame_law : (n : ℕ) (l : List ℕ) → Bytes l → length l ≡ n → read_b n (frame_b l) ≡ Good l
unfolding read_b
read_frame_law n l b e =
    rw (eq-eqb (length (frame_b l)) (8 * (n + 2)) (rw (length_frame, e)), clean_frame l, bytes_frame n l b e) (without_with l)

-- ---- what is read is what was written

good_ends : (m : List ℕ) → crc_good_b m ≡ true → m ≡ with_crc_b (take (length m - 2) m)
unfolding good_of
good_ends m e = same_sound m (with_crc_b (take (length m - 2) m)) e

without_exact : (m l : List ℕ) → without_crc_b m ≡ Good l → m ≡ with_crc_b l
unfolding without_crc_b
without_exact m l e = go (crc_good_b m) refl e
  where
    go : (b : Bool) → crc_good_b m ≡ b → cond b (Good (take (length m - 2) m)) (Fault Crc) ≡ Good l → m ≡ with_crc_b l
    go true s e = let q : take (length m - 2) m ≡ l = cc in good_ends m s ∙ ap with_crc_b q
    go false s e = absurd (let z : ◌≡◌ {A = ℕ} 0 1 = cc in omega arith)

pub read_exact : (n : ℕ) (h l : List ℕ) → read_b n h ≡ Good l → h ≡ frame_b l
unfolding read_b
read_exact n h l e = go (eqb (length h) (8 * (n + 2))) refl (clean h) refl e
  where
    go : (s : Bool) → eqb (length h) (8 * (n + 2)) ≡ s → (c : Bool) → clean h ≡ c
        → cond (not s) (Fault Length) (cond (not c) (Fault Collision) (without_crc_b (bytes_of (n + 2) h))) ≡ Good l → h ≡ frame_b l
    go true s true c e =
        unfold frame_b in
        sym (bits_bytes_all (n + 2) h (clean_bits h c) (eqb-true (length h) (8 * (n + 2)) s)) ∙ ap air_bits (without_exact (bytes_of (n + 2) h) l e)
    go true s false c e = absurd (let z : ◌≡◌ {A = ℕ} 0 1 = cc in omega arith)
    go false s c d e = absurd (let z : ◌≡◌ {A = ℕ} 0 1 = cc in omega arith)

-- ---- a frame tells its bytes

pub frame_tells : (l m : List ℕ) → Bytes l → Bytes m → frame_b l ≡ frame_b m → l ≡ m
frame_tells l m b d e =
    let n : length m ≡ length l = omega (arith, ap length e, length_frame l, length_frame m) in
    go (sym (read_frame_law (length l) l b refl) ∙ ap (read_b (length l)) e ∙ read_frame_law (length l) m d n)
  where
    go : Good l ≡ Good m → l ≡ m
    go q = cc

-- the bytes at the front of a row
bytes_front : (l r : List ℕ) → Bytes l → bytes_of (length l) (air_bits l ++ r) ≡ l
unfolding bytes_of air_bits
bytes_front [] r h = refl
bytes_front (b ∷ l) r h =
    rw (
      append_assoc (bits_of 8 b) (air_bits l) r,
      take_at (bits_of 8 b) (air_bits l ++ r) 8 (length_bits 8 b),
      drop_at (bits_of 8 b) (air_bits l ++ r) 8 (length_bits 8 b),
      unbits_bits 8 b h.0,
      bytes_front l r h.1,
    )

-- a frame behind its first bytes p
behind : (p l : List ℕ) → drop (8 * length p) (frame_b (p ++ l)) ≡ air_bits l ++ air_bits (crc_bytes_b (p ++ l))
unfolding frame_b with_of
behind p l =
    let c : List ℕ = crc_bytes_b (p ++ l) in
    rw (append_assoc p l c, air_bits_append p (l ++ c), drop_at (air_bits p) (air_bits (l ++ c)) (8 * length p) (length_air_bits p)) (air_bits_append l c)

-- the bytes that follow them
pub bytes_behind : (p l : List ℕ) → Bytes l → bytes_of (length l) (drop (8 * length p) (frame_b (p ++ l))) ≡ l
bytes_behind p l b = rw (behind p l) (bytes_front l (air_bits (crc_bytes_b (p ++ l))) b)

-- the byte that follows them
pub byte_behind : (p l : List ℕ) (b : ℕ) → b < 256 → byte_at (length p) (frame_b (p ++ b ∷ l)) ≡ b
unfolding air_bits
byte_behind p l b h = rw (behind p (b ∷ l), append_assoc (bits_of 8 b), take_at (bits_of 8 b) _ 8 (length_bits 8 b)) (unbits_bits 8 b h)

-- the first byte
pub first_bits : (b : ℕ) (l : List ℕ) → take 8 (frame_b (b ∷ l)) ≡ bits_of 8 b
unfolding frame_b with_of
first_bits b l = first_byte_law b _
