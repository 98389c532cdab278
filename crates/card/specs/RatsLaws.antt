-- Is a frame RATS? FSDI is read as it stands in the row, so it is a number below 16 in every frame that is RATS. Assumes nothing.
use Rattle.std.specs.Prelude.{◌≡◌, ◌≢◌, ℕ, ◌+◌, ◌*◌, ◌≤◌, ◌<◌, true, false, List, length, take, drop, get_or}
use Rattle.std.proofs.Common.{ap, ◌∙◌, length-take, arith}
use Rattle.rows.specs.ListLaws.{all_take_law, all_drop, same_ne, same_sound}
use Rattle.rows.specs.Rows.{Bits, same}
use Rattle.parity.specs.BitLaws.{unbits_lt}
use Rattle.parity.specs.Bits.{unbits, bits_of}
use Rattle.frame.specs.Frame.{air_byte, standard}
use Rattle.crc.specs.Crc.{with_crc}
use Rattle.frame.proofs.FrameLaws.{bits_standard}
use Rattle.uid.specs.BytesAtLaws.{four_at}
use Rattle.selection.specs.Selection.{rats}
use Rattle.selection.specs.SelectionLaws.{length_rats}
use Rattle.card.specs.Card.{fsdi}

bits_rats : (i : ℕ) → Bits (rats i)
unfolding rats
bits_rats i = bits_standard _

small_bits : (r : List ℕ) → Bits r → fsdi r < 16
small_bits r b = unbits_lt 4 (take 4 (drop 13 r)) (all_take_law (λ x. x < 2) 4 (drop 13 r) (all_drop (λ x. x < 2) 13 r b)) (rw length-take (omega arith))

small : (f : List ℕ) (i : ℕ) → f ≡ rats i → fsdi f < 16
small f i e = rw e (small_bits (rats i) (bits_rats i))

pub rats_is : (f : List ℕ) → same f (rats (fsdi f)) ≡ true → (length f ≡ 36) × (fsdi f < 16)
rats_is f t =
    let e : f ≡ rats (fsdi f) = same_sound f (rats (fsdi f)) t in
    (ap length e ∙ length_rats (fsdi f), small f (fsdi f) e)

pub not_rats : (f : List ℕ) → length f ≢ 36 → same f (rats (fsdi f)) ≡ false
not_rats f n = same_ne f (rats (fsdi f)) (λ e. n (ap length e ∙ length_rats (fsdi f)))

pub not_fsdi : (f : List ℕ) → 15 < fsdi f → same f (rats (fsdi f)) ≡ false
not_fsdi f h = same_ne f (rats (fsdi f)) (λ e. omega (arith, small f (fsdi f) e))

pub fsdi_read : (f : List ℕ) → 17 ≤ length f → get_or f 13 0 + 2 * (get_or f 14 0 + 2 * (get_or f 15 0 + 2 * get_or f 16 0)) ≡ fsdi f
unfolding unbits
fsdi_read f h = rw (four_at 13 f h) (omega arith)

-- RATS is read back as the FSDI that was written: bits 13 to 16 of its row, the high half of its second byte
pub fsdi_rats : (i : ℕ) → i < 16 → fsdi (rats i) ≡ i
unfolding rats with_crc standard air_byte bits_of unbits
fsdi_rats i h = omega arith
