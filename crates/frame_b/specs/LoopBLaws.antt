-- Laws for the loops over the bytes of a Type B frame: one turn, and the end. Assumes nothing.
use Rattle.std.specs.Prelude.{◌≡◌, refl, List, [], ◌∷◌, ◌++◌, ℕ, zero, suc, ◌+◌, ◌*◌, ◌≤◌, ◌<◌, length, take, drop, get_or, set}
use Rattle.std.proofs.Common.{sym, ap, ◌∙◌, add-one, zero-add, arith, take-suc, length-take-le, drop-drop}
use Rattle.rows.specs.Rows.{overlay}
use Rattle.rows.proofs.RowLaws.{overlay_next, overlay_set, overlay_all}
use Rattle.parity.specs.Bits.{bits_of, unbits}
use Rattle.parity.specs.BitLaws.{length_bits}
use Rattle.crc.specs.CrcOf.{with_of, crc_bytes_b}
use Rattle.crc.specs.CrcOfLaws.{length_sent}
use Rattle.frame.specs.Frame.{air_bits, bytes_of}
use Rattle.frame.specs.ByteLaws.{length_air_bits, air_bits_append, air_bits_one, length_bytes}
use Rattle.frame_b.specs.FrameB.{frame_b}

-- ---- writing

pub bits_turn : (d : List ℕ) (at : ℕ) (l : List ℕ) (i : ℕ) → at + 8 * length l ≤ length d → i < length l
    → overlay (overlay d at (air_bits (take i l))) (at + 8 * i) (bits_of 8 (get_or l i 0)) ≡ overlay d at (air_bits (take (i + 1) l))
bits_turn d at l i h k =
    let e : length (air_bits (take i l)) ≡ 8 * i = length_air_bits (take i l) ∙ ap (λ (n : ℕ). 8 * n) (length-take-le i l (omega arith)) in
    rw (add-one, take-suc l i 0, air_bits_append, air_bits_one, ← e)
    (overlay_next d at (air_bits (take i l)) (bits_of 8 (get_or l i 0)) (omega (arith, e, length_bits 8 (get_or l i 0))))

-- CRC_B behind the bytes
pub bits_crc : (d l k : List ℕ) → k ≡ crc_bytes_b l → 8 * (length l + 2) ≤ length d
    → overlay (overlay d 0 (air_bits l)) (8 * length l) (air_bits k) ≡ overlay d 0 (frame_b l)
unfolding frame_b with_of
bits_crc d l k e h =
    rw (e, air_bits_append, ← length_air_bits l)
    (rw zero-add at (overlay_next d 0 (air_bits l) (air_bits (crc_bytes_b l)) (omega (arith, length_air_bits l, length_air_bits (crc_bytes_b l), length_sent 0xFFFF 0xFFFF l))))

-- ---- reading

-- one byte more, at the end
bytes_last : (n : ℕ) (r : List ℕ) → bytes_of (suc n) r ≡ bytes_of n r ++ (unbits (take 8 (drop (8 * n) r)) ∷ [])
unfolding bytes_of
bytes_last zero r = refl
bytes_last (suc n) r =
    let e : 8 * suc n ≡ 8 + 8 * n = omega arith in
    rw (e, ← drop-drop (8 * n) 8 r) (ap (λ (l : List ℕ). unbits (take 8 r) ∷ l) (bytes_last n (drop 8 r)))

pub bytes_turn : (d r : List ℕ) (i : ℕ) → i < length d
    → set (overlay d 0 (bytes_of i r)) i (unbits (take 8 (drop (8 * i) r))) ≡ overlay d 0 (bytes_of (i + 1) r)
bytes_turn d r i h =
    let e : length (bytes_of i r) ≡ i = length_bytes i r in
    rw (add-one, bytes_last i r)
    (rw (zero-add, e) at (overlay_set d 0 (bytes_of i r) (unbits (take 8 (drop (8 * i) r))) (rw (zero-add, e) h)))

-- a row at the front of another, and what is left of that one
front : (d s : List ℕ) → overlay d 0 s ≡ s ++ drop (length s) d
unfolding overlay
front d s = rw zero-add

-- all of the part that they are written over
pub bytes_over : (d r : List ℕ) (n : ℕ) → n ≤ length d → overlay (take n d) 0 (bytes_of n r) ++ drop n d ≡ overlay d 0 (bytes_of n r)
bytes_over d r n h =
    let e : length (bytes_of n r) ≡ n = length_bytes n r in
    rw (overlay_all (take n d) (bytes_of n r) (length-take-le n d h ∙ sym e), front d (bytes_of n r), e)
