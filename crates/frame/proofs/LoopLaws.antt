-- Laws for the loops over the bytes of a frame: one turn, and the end. Assumes nothing.
use Rattle.std.specs.Prelude.{◌≡◌, true, false, not, List, [], ◌∷◌, ◌++◌, length, take, drop, get_or, set, eqb}
use Rattle.std.proofs.Common.{ap, ◌∙◌, append-nil, add-one, zero-add, arith, length-drop, take-suc, length-take-le, drop-drop, get_or-drop, eq-eqb, ne_eqb}
use Prim.Native.Nat.{ℕ, zero, suc, ◌+◌, ◌*◌, ◌-◌, ◌≤◌, ◌<◌}
use Rattle.rows.specs.Rows.{overlay, clean}
use Rattle.rows.proofs.RowLaws.{overlay_next, overlay_set}
use Rattle.rows.specs.HeardLaws.{clean_bits, clean_take, clean_drop}
use Rattle.parity.specs.Bits.{bits_of, unbits, odd}
use Rattle.crc.specs.Crc.{crc_bytes, with_crc}
use Rattle.crc.specs.CrcLaws.{length_crc}
use Rattle.frame.specs.Frame.{air_byte, standard, data_of, bytes_of, wrong_byte, first_wrong}
use Rattle.frame.proofs.FrameLaws.{length_air_byte, length_standard, standard_append, bytes_first, bits_whole}
use Rattle.frame.specs.ByteLaws.{length_bytes}

-- ---- writing

-- one byte more
standard_next : (l : List ℕ) (i : ℕ) → i < length l → standard (take (suc i) l) ≡ standard (take i l) ++ air_byte (get_or l i 0)
unfolding standard
standard_next l i h = rw (take-suc l i 0, standard_append, append-nil)

pub standard_turn : (d : List ℕ) (at : ℕ) (l : List ℕ) (i : ℕ) → at + 9 * length l ≤ length d → i < length l
    → overlay (overlay d at (standard (take i l))) (at + 9 * i) (air_byte (get_or l i 0)) ≡ overlay d at (standard (take (i + 1) l))
standard_turn d at l i h k =
    let e : length (standard (take i l)) ≡ 9 * i = length_standard (take i l) ∙ ap (λ (n : ℕ). 9 * n) (length-take-le i l (omega arith)) in
    rw (add-one, standard_next l i k, ← e)
    (overlay_next d at (standard (take i l)) (air_byte (get_or l i 0)) (omega (arith, e, length_air_byte (get_or l i 0))))

-- CRC_A behind the bytes
pub standard_crc : (d l k : List ℕ) → k ≡ crc_bytes l → 9 * (length l + 2) ≤ length d
    → overlay (overlay d 0 (standard l)) (9 * length l) (standard k) ≡ overlay d 0 (standard (with_crc l))
unfolding with_crc
standard_crc d l k e h =
    rw (e, standard_append, ← length_standard l)
    (rw zero-add at (overlay_next d 0 (standard l) (standard (crc_bytes l)) (omega (arith, length_standard l, length_standard (crc_bytes l), length_crc l))))

-- ---- parity

pub first_next : (k i : ℕ) (r : List ℕ) (at : ℕ) → i < k → wrong_byte (drop (at + 9 * i) r) ≡ false
    → first_wrong (k - i) (drop (at + 9 * i) r) ≡ suc (first_wrong (k - (i + 1)) (drop (at + 9 * (i + 1)) r))
unfolding first_wrong
first_next k i r at h w =
    let e : k - i ≡ suc (k - (i + 1)) = omega arith in
    let f : at + 9 * (i + 1) ≡ at + 9 * i + 9 = omega arith in
    rw (e, f, ← drop-drop 9 (at + 9 * i) r, w)

pub first_here : (k i : ℕ) (r : List ℕ) → i < k → wrong_byte r ≡ true → first_wrong (k - i) r ≡ 0
unfolding first_wrong
first_here k i r h w =
    let e : k - i ≡ suc (k - (i + 1)) = omega arith in
    rw (e, w)

pub first_done : (k i : ℕ) (r : List ℕ) → k ≤ i → first_wrong (k - i) r ≡ 0
unfolding first_wrong
first_done k i r h = let e : k - i ≡ 0 = omega arith in rw e

-- the parity of a byte whose data bits are read
pub wrong_read : (r : List ℕ) (at b p : ℕ) → at + 9 ≤ length r → clean (take 8 (drop at r)) ≡ true → b ≡ unbits (take 8 (drop at r)) → p ≡ odd (bits_of 8 b)
    → wrong_byte (drop at r) ≡ not (eqb (get_or r (at + 8) 0) p)
wrong_read r at b p h k e f =
    let d : List ℕ = take 8 (drop at r) in
    let w : bits_of 8 b ≡ d = ap (bits_of 8) e ∙ bits_whole 8 d (clean_bits d k) (length-take-le 8 (drop at r) (rw length-drop (omega arith))) in
    rw (f, w, k, get_or-drop at r 8 0)

-- .. of byte i of a row with no collided bit
module _ (r : List ℕ) (i b p : ℕ) (h : 9 * i + 9 ≤ length r) (k : clean r ≡ true) (e : b ≡ unbits (take 8 (drop (9 * i) r))) (f : p ≡ odd (bits_of 8 b)) where
  read_at_law : wrong_byte (drop (0 + 9 * i) r) ≡ not (eqb (get_or r (9 * i + 8) 0) p)
  read_at_law = rw zero-add (wrong_read r (9 * i) b p h (clean_take 8 (drop (9 * i) r) (clean_drop (9 * i) r k)) e f)

  pub wrong_here : (get_or r (9 * i + 8) 0 ≡ p → ⊥) → wrong_byte (drop (0 + 9 * i) r) ≡ true
  wrong_here n = read_at_law ∙ ap not (ne_eqb (get_or r (9 * i + 8) 0) p n)

  pub right_here : get_or r (9 * i + 8) 0 ≡ p → wrong_byte (drop (0 + 9 * i) r) ≡ false
  right_here n = read_at_law ∙ ap not (eq-eqb (get_or r (9 * i + 8) 0) p n)

-- ---- reading

-- one byte more, at the end
bytes_last : (n : ℕ) (r : List ℕ) → 9 * suc n ≤ length r
    → bytes_of (suc n) (data_of (suc n) r) ≡ bytes_of n (data_of n r) ++ (unbits (take 8 (drop (9 * n) r)) ∷ [])
bytes_last zero r h = unfold bytes_of data_of in bytes_first zero r (omega arith)
bytes_last (suc n) r h =
    let e : 9 * suc n ≡ 9 + 9 * n = omega arith in
    rw (bytes_first (suc n) r (omega arith), bytes_first n r (omega arith), e, ← drop-drop (9 * n) 9 r)
    (ap (λ (l : List ℕ). unbits (take 8 r) ∷ l) (bytes_last n (drop 9 r) (rw length-drop (omega arith))))

pub bytes_turn : (d r : List ℕ) (i : ℕ) → i < length d → 9 * (i + 1) ≤ length r
    → set (overlay d 0 (bytes_of i (data_of i r))) i (unbits (take 8 (drop (9 * i) r))) ≡ overlay d 0 (bytes_of (i + 1) (data_of (i + 1) r))
bytes_turn d r i h k =
    let l : List ℕ = bytes_of i (data_of i r) in
    let e : length l ≡ i = length_bytes i (data_of i r) in
    rw (add-one, bytes_last i r (omega arith))
    (rw (zero-add, e) at (overlay_set d 0 l (unbits (take 8 (drop (9 * i) r))) (rw (zero-add, e) h)))
