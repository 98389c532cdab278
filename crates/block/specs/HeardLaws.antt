-- What a block's row is where it is heard. Assumes nothing.
use Rattle.std.specs.Prelude.{◌≡◌, refl, ℕ, ◌+◌, ◌*◌, ◌/◌, ◌%◌, ◌≤◌, ◌<◌, Bool, true, false, cond, List, [], ◌∷◌, length, leb}
use Rattle.std.proofs.Common.{◌∙◌, arith, eq-eqb, le-leb, leb-true, leb-false}
use Rattle.std.proofs.lemmas.Bool.{lt-leb}
use Rattle.rows.specs.Rows.{is_nil, Bytes}
use Rattle.crc.specs.Crc.{with_crc}
use Rattle.crc.specs.CrcLaws.{length_with}
use Rattle.parity.specs.Bits.{bits_of}
use Rattle.frame.specs.Frame.{air_byte, standard, whole_bytes, read_frame, read_crc, Good, Fault}
use Rattle.frame.specs.Calls.{good_bytes}
use Rattle.frame.proofs.FrameLaws.{length_standard, read_crc_standard}
use Rattle.selection.specs.Selection.{size}
use Rattle.refusal.specs.declared.Refusal.TheVariants.{Length}
use Rattle.block.specs.Block.{verdict}
use Rattle.block.specs.Row.{block_row, heard_row}

-- a block's row is not empty
row_some : (f : ℕ) (p : List ℕ) → is_nil (block_row (f ∷ p)) ≡ false
unfolding is_nil with_crc standard air_byte bits_of
row_some f p = refl

-- whole bytes, but more of them than the end takes
too_many : (most k : ℕ) → 3 ≤ k → most < k → whole_bytes 3 most (9 * k) ≡ false
unfolding whole_bytes
too_many most k h g =
    let e : 9 * k / 9 ≡ k = omega arith in
    rw (eq-eqb (9 * k % 9) 0 (omega arith), e, le-leb 3 k h, lt-leb k most g)

pub heard_long : (i f : ℕ) (p : List ℕ) → size i < 3 + length p → heard_row i (block_row (f ∷ p)) ≡ Fault Length
unfolding heard_row read_crc read_frame
heard_long i f p h =
    let e : length (standard (with_crc (f ∷ p))) ≡ 9 * (length (f ∷ p) + 2) = length_standard (with_crc (f ∷ p)) ∙ rw (length_with (f ∷ p)) in
    rw (row_some f p, e, too_many (size i) (length (f ∷ p) + 2) (omega arith) (omega arith))

-- a block's row is heard as the definitions of the protocol have it
pub heard_row_law : (i : ℕ) (l : List ℕ) → Bytes l → heard_row i (block_row l) ≡ verdict i l
unfolding heard_row is_nil
heard_row_law i [] b = refl
heard_row_law i (f ∷ p) b = go (leb (3 + length p) (size i)) refl
  where
    go : (t : Bool) → leb (3 + length p) (size i) ≡ t → heard_row i (block_row (f ∷ p)) ≡ cond t (Good (f ∷ p)) (Fault Length)
    go true e =
        let h : 3 + length p ≤ size i = leb-true (3 + length p) (size i) e in
        rw (row_some f p, read_crc_standard (size i) (f ∷ p) b (omega arith) (omega arith))
    go false e = heard_long i f p (leb-false (3 + length p) (size i) e)

-- for the code: silence needs no test of its own where only the bytes of a good frame count
pub heard_good : (i : ℕ) (h : List ℕ) → good_bytes (heard_row i h) ≡ good_bytes (read_crc 3 (size i) h)
unfolding heard_row is_nil read_crc read_frame whole_bytes
heard_good i [] = refl
heard_good i (x ∷ h) = refl
