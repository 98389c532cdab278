-- Laws of rows of whole bytes: the loops over them, their CRC_B, and that what is written is sound. Assumes nothing.
use Rattle.std.specs.Prelude.{◌≡◌, ℕ, zero, suc, ◌+◌, ◌-◌, ◌*◌, ◌/◌, ◌%◌, ◌≤◌, ◌<◌, Bool, true, ◌&&◌, List, [], ◌∷◌, ◌++◌, length, get_or, eqb, leb}
use Rattle.std.proofs.Math.Path.{refl}
use Rattle.std.proofs.Common.{ap, ◌∙◌, not-suc-le-zero, zero-add, arith, rules, append_assoc, drop-drop, take-take, take_at, drop_at, eq-eqb, le-leb, eqb-true, leb-true}
use Rattle.std.proofs.Math.ListN.{take, drop, length-drop}
use Rattle.std.proofs.Math.Seq.{take_all}
use Rattle.std.specs.Cmp.Lexicographic.{pointwise}
use Rattle.std.proofs.lemmas.Bool.Decides.{same_from_decides, Decides-eqb}
use Rattle.std.proofs.lemmas.Slice.Eq.{slice_eq-Decides, compares_Decides}
use Rattle.rows.specs.Rows.{overlay, clean, same, Bytes}
use Rattle.rows.specs.ListLaws.{both}
use Rattle.rows.specs.CleanLaws.{bits_clean}
use Rattle.rows.specs.HeardLaws.{clean_take, clean_drop}
use Rattle.rows.proofs.RowLaws.{overlay_front}
use Rattle.parity.specs.Bits.{unbits}
use Rattle.crc.specs.Crc.{shift, shifts}
use Rattle.crc.specs.CrcOf.{crc_bytes_b, crc_good_b}
use Rattle.crc.specs.CrcOfLaws.{good_last_of, good_with_of}
use Rattle.frame.specs.Frame.{air_bits, bytes_of}
use Rattle.frame.specs.ByteLaws.{length_air_bits, length_bytes, bits_air_bits}
use Rattle.parity.specs.Bits.{bits_of}
use Rattle.parity.specs.BitLaws.{length_bits, unbits_bits}
use Rattle.frame_b.specs.FrameB.{frame_b}
use Rattle.frame_b.specs.FrameBLaws.{length_frame, clean_frame, bytes_frame}
use Rattle.frame_b.specs.LoopBLaws.{bits_crc}
use Rattle.frame_v.specs.FrameV.{sound}

-- ---- bytes of a row by index

pub byte_of : (n : ℕ) (r : List ℕ) (i : ℕ) → i < n → get_or (bytes_of n r) i 0 ≡ unbits (take 8 (drop (8 * i) r))
unfolding bytes_of
byte_of zero r i h = absurd (not-suc-le-zero h)
byte_of (suc n) r zero h = refl
byte_of (suc n) r (suc i) h =
    let e : 8 * suc i ≡ 8 + 8 * i = omega arith in
    rw (e, ← drop-drop (8 * i) 8 r) (byte_of n (drop 8 r) i (omega arith))

-- the bytes from the n-th on
pub bytes_drop : (n m : ℕ) (r : List ℕ) → drop n (bytes_of (n + m) r) ≡ bytes_of m (drop (8 * n) r)
unfolding bytes_of
bytes_drop zero m r = rw zero-add
bytes_drop (suc n) m r =
    let k : suc n + m ≡ suc (n + m) = omega arith in
    let e : 8 * suc n ≡ 8 + 8 * n = omega arith in
    rw (k, e, ← drop-drop (8 * n) 8 r) (bytes_drop n m (drop 8 r))

-- the bytes up to the n-th
pub bytes_take : (n m : ℕ) (r : List ℕ) → take n (bytes_of (n + m) r) ≡ bytes_of n r
unfolding bytes_of
bytes_take zero m r = refl
bytes_take (suc n) m r = let k : suc n + m ≡ suc (n + m) = omega arith in rw k (ap (λ l. unbits (take 8 r) ∷ l) (bytes_take n m (drop 8 r)))

-- bytes at the front of a row
pub bytes_front : (l r : List ℕ) → Bytes l → bytes_of (length l) (air_bits l ++ r) ≡ l
unfolding bytes_of air_bits
bytes_front [] r h = refl
bytes_front (b ∷ l) r h =
    rw (
      append_assoc (bits_of 8 b) (air_bits l) r,
      take_at (bits_of 8 b) (air_bits l ++ r) 8 (length_bits 8 b),
      drop_at (bits_of 8 b) (air_bits l ++ r) 8 (length_bits 8 b),
      unbits_bits 8 b h.0,
      bytes_front l r h.1,
    )

-- ---- the register

pub shifts_next : (i x : ℕ) → i < 8 → shifts (8 - i) x ≡ shifts (8 - (i + 1)) (shift x)
unfolding shifts
shifts_next i x h = let e : 8 - i ≡ suc (8 - (i + 1)) = omega arith in rw e

pub shifts_done : (i x : ℕ) → 8 ≤ i → shifts (8 - i) x ≡ x
unfolding shifts
shifts_done i x h = let e : 8 - i ≡ 0 = omega arith in rw e

-- ---- the last two bytes

-- what `==` says of two rows of bytes
pub same_eq : (xs ys : List ℕ) (r : Bool) → r ≡ pointwise eqb xs ys → r ≡ same xs ys
unfolding same
same_eq xs ys r e = same_from_decides r (same xs ys) (slice_eq-Decides Decides-eqb xs ys r e) (compares_Decides same (search rules) xs ys)

pub last_good : (f d : List ℕ) (n : ℕ) → n ≡ length f / 8 - 2 → 16 ≤ length f → d ≡ crc_bytes_b (bytes_of n f)
    → same (unbits (take 8 (drop (8 * n) f)) ∷ unbits (take 8 (drop (8 * n + 8) f)) ∷ []) d ≡ crc_good_b (bytes_of (length f / 8) f)
last_good f d n e h g =
    let k : length f / 8 ≡ n + 2 = omega arith in
    let l : List ℕ = bytes_of (n + 2) f in
    let m : n ≡ length l - 2 = rw length_bytes (omega arith) in
    let t : take n l ≡ bytes_of n f = bytes_take n 2 f in
    let p : drop n l ≡ unbits (take 8 (drop (8 * n) f)) ∷ unbits (take 8 (drop (8 * n + 8) f)) ∷ [] = bytes_drop n 2 f ∙ (unfold bytes_of in rw drop-drop) in
    let q : take (length l - n) (drop n l) ≡ drop n l = take_all (length l - n) (drop n l) (rw length-drop (omega arith)) in
    rw k (rw (← p, ← q) (good_last_of 0xFFFF 0xFFFF l d n m (rw t g)))

-- ---- bits that did not collide

-- eight bits of the first m
pub part_clean : (m i : ℕ) (r : List ℕ) → i + 8 ≤ m → clean (take m r) ≡ true → clean (take 8 (drop i r)) ≡ true
part_clean m zero r h e = rw (← take-take 8 m r (omega arith)) (clean_take 8 (take m r) e)
part_clean zero (suc i) r h e = absurd (omega arith)
part_clean (suc m) (suc i) [] h e = unfold clean in refl
part_clean (suc m) (suc i) (x ∷ r) h e = part_clean m i r (omega arith) (clean_drop 1 (x ∷ take m r) e)

-- ---- what is written is sound

-- the bytes at the front of a row that l was written over
front_bytes_law : (d l : List ℕ) → Bytes l → bytes_of (length l) (overlay d 0 (air_bits l)) ≡ l
unfolding overlay
front_bytes_law d l b = bytes_front l (drop (0 + length (air_bits l)) d) b

pub sound_frame : (l : List ℕ) → Bytes l → 2 ≤ length l → sound (frame_b l) ≡ true
unfolding sound
sound_frame l b h =
    let n : length (frame_b l) ≡ 8 * (length l + 2) = length_frame l in
    let k : length (frame_b l) / 8 ≡ length l + 2 = omega arith in
    rw (eq-eqb (length (frame_b l) % 8) 0 (omega arith), le-leb 32 (length (frame_b l)) (omega arith), clean_frame l, k, bytes_frame (length l) l b refl)
    (good_with_of 0xFFFF 0xFFFF l)

-- a row l that stands at the front of a longer one, closed by its CRC_B
pub closed : (d l o p : List ℕ) (n : ℕ) → Bytes l → length l ≡ n → 8 * (n + 2) ≤ length d → o ≡ overlay d 0 (air_bits l)
    → p ≡ overlay o (8 * n) (air_bits (crc_bytes_b (bytes_of n o))) → p ≡ overlay d 0 (frame_b l)
closed d l o p n b e h eo ep =
    let q : bytes_of n o ≡ l = rw (eo, ← e) (front_bytes_law d l b) in
    ep ∙ rw (q, eo, ← e) (bits_crc d l (crc_bytes_b l) refl (rw e h))

-- .. none of whose bits collided
pub front_clean : (d l o : List ℕ) (n : ℕ) → length l ≡ n → o ≡ overlay d 0 (air_bits l) → clean (take (8 * n) o) ≡ true
front_clean d l o n e eo =
    let k : 8 * n ≡ length (air_bits l) = rw (length_air_bits, e) in
    rw (eo, k, overlay_front d (air_bits l)) (bits_clean (air_bits l) (bits_air_bits l))

-- ---- what a sound row is

pub record Sound (f : List ℕ) : Type 0 where
  pub whole : length f % 8 ≡ 0
  pub long : 32 ≤ length f
  pub clear : clean f ≡ true

pub sound_is : (f : List ℕ) → sound f ≡ true → Sound f
unfolding sound
sound_is f e =
    let a = both (eqb (length f % 8) 0) (leb 32 (length f) && (clean f && crc_good_b (bytes_of (length f / 8) f))) e in
    let b = both (leb 32 (length f)) (clean f && crc_good_b (bytes_of (length f / 8) f)) a.1 in
    let d = both (clean f) (crc_good_b (bytes_of (length f / 8) f)) b.1 in
    record { whole = eqb-true (length f % 8) 0 a.0; long = leb-true 32 (length f) b.0; clear = d.0 }

pub sound_long : (f : List ℕ) → sound f ≡ true → 32 ≤ length f
sound_long f e = (sound_is f e).long

pub sound_clear : (f : List ℕ) → sound f ≡ true → clean f ≡ true
sound_clear f e = (sound_is f e).clear
