-- Each answer of a card that is written is read back by the reader as what was written. Assumes nothing.
use Rattle.std.specs.Prelude.{◌≡◌, refl, false, Ok}
use Prim.Native.Nat.{ℕ, ◌*◌, ◌/◌, ◌%◌, ◌<◌}
use mathlib.Core.List.{List, [], ◌∷◌, ◌++◌}
use Rattle.std.proofs.Math.ListN.{length}
use Rattle.std.proofs.Common.{length-append, eq-eqb}
use native.Mathlib.Omega.{arith}
use Rattle.rows.specs.CleanLaws.{not_nil}
use Rattle.rows.specs.ListLaws.{all_append}
use Rattle.rows.specs.Rows.{Bytes, is_nil}
use Rattle.frame_b.specs.FrameB.{frame_b}
use Rattle.frame_b.specs.FrameBLaws.{length_frame, clean_frame, bytes_frame, without_with, read_frame_law}
use Rattle.selection_b.specs.TypeB.{Parts, atqb_bytes, done}
use Rattle.selection_b.specs.HeardB.{read_slot, alone, read_byte, read_attrib, read_hltb}

some_frame : (l : List ℕ) → is_nil (frame_b l) ≡ false
some_frame l = not_nil (frame_b l) (omega (arith, length_frame l))

module _ (u a p : List ℕ) (h : Parts u a p) where
  pub length_atqb : length (atqb_bytes u a p) ≡ 12
  unfolding atqb_bytes
  length_atqb = rw (length-append, length-append) (omega (arith, h.four, h.application_four, h.three))

  pub bytes_atqb : Bytes (atqb_bytes u a p)
  unfolding atqb_bytes
  bytes_atqb = (omega arith, all_append (λ x. x < 256) u (a ++ p) h.pupi_bytes (all_append (λ x. x < 256) a p h.application_bytes h.protocol_bytes))

  -- an ATQB alone in a slot
  pub reads_atqb : read_slot (frame_b (atqb_bytes u a p)) ≡ alone (atqb_bytes u a p)
  unfolding read_slot
  reads_atqb =
      let l : List ℕ = atqb_bytes u a p in
      let n : length (frame_b l) ≡ 112 = rw (length_frame, length_atqb) in
      rw (some_frame l, n, clean_frame l, bytes_frame 12 l bytes_atqb length_atqb, without_with l) (unfold atqb_bytes in refl)

-- the answer to ATTRIB, with MBLI m and CID 0
pub reads_attrib : (m : ℕ) → m < 16 → read_attrib (frame_b (16 * m ∷ [])) ≡ Ok m
unfolding read_attrib read_byte
reads_attrib m h =
    let l : List ℕ = 16 * m ∷ [] in
    let e : 16 * m / 16 ≡ m = omega arith in
    rw (some_frame l, read_frame_law 1 l (omega arith, tt) refl, eq-eqb (16 * m % 16) 0 (omega arith), e)

-- our card's
pub reads_attached : read_attrib done ≡ Ok 0
unfolding done
reads_attached = reads_attrib 0 (omega arith)

-- the answer to HLTB
pub reads_halted : read_hltb done ≡ (Ok tt)
unfolding read_hltb read_byte done
reads_halted = rw (some_frame (0x00 ∷ []), read_frame_law 1 (0x00 ∷ []) (omega arith, tt) refl)
