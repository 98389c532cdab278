-- Document 01, "Frames on the air": each answer of a card that we write is read back as what was written, and the 40 places at which a level
-- may be split are told apart by the length of ANTICOLLISION and by its NVB. Assumes nothing.
use Rattle.std.specs.Prelude.{◌≡◌, ℕ, zero, suc, ◌+◌, ◌-◌, ◌/◌, ◌%◌, ◌≤◌, ◌<◌, true, false, List, [], ◌∷◌, length, take, drop, Ok}
use Rattle.std.proofs.Math.Path.{refl}
use Rattle.std.proofs.Math.ListN.{get_or}
use Rattle.std.proofs.Common.{length-drop, take-append-drop, lt-ltb, arith}
use Rattle.rows.specs.CleanLaws.{not_nil, next_clean, bits_clean}
use Rattle.rows.specs.ListLaws.{same_eq, same_refl}
use Rattle.rows.specs.Rows.{All, Bytes, is_nil, clean, same}
use Rattle.parity.specs.Bits.{bits_of, odd, ones}
use Rattle.crc.specs.Crc.{with_crc}
use Rattle.crc.specs.CrcLaws.{length_with, with_bytes}
use Rattle.frame.specs.ByteLaws.{bits_air_bits, bytes_bits}
use Rattle.frame.specs.Frame.{air_byte, standard, air_bits, data_of, bytes_of, first_wrong, faulty}
use Rattle.frame.proofs.FrameLaws.{Passed, read_passed, read_standard, read_crc_standard, length_standard}
use Rattle.frame.proofs.ParityLaws.{faulty_drop}
use Rattle.uid.specs.CheckLaws.{Five}
use Rattle.uid.specs.Uid.{level}
use Rattle.selection.specs.Selection.{nvb, cut, others, sak_frame, atqa, ats, at_most8, size}
use Rattle.selection.specs.Heard.{read_atqa, read_rest, rest_of, read_sak, announced, ats_fits, read_ats}
use Rattle.uid.specs.declared.UidSize.{UidSize}
use Rattle.uid.specs.declared.UidSize.TheVariants.{Single, Double, Triple}
use Rattle.selection.specs.declared.RestSays.TheVariants.{Whole}

-- ---- NVB and the split

-- "High half of NVB: whole bytes sent, SEL and NVB included; low half: bits left over"
pub nvb_high : (k : ℕ) → nvb k / 16 ≡ 2 + k / 8
nvb_high k = omega arith

pub nvb_low : (k : ℕ) → nvb k % 16 ≡ k % 8
nvb_low k = omega arith

-- .. a byte for "k from 0 to 39"
pub nvb_byte : (k : ℕ) → k < 40 → nvb k < 256
nvb_byte k h = omega arith

-- 40 different NVBs
pub nvb_tells : (k j : ℕ) → nvb k ≡ nvb j → k ≡ j
nvb_tells k j e = omega arith

-- .. and 40 different lengths
pub cut_tells : (k j : ℕ) → cut k ≡ cut j → k ≡ j
cut_tells k j e = omega arith

-- ---- a standard frame passes the tests

module _ (l : List ℕ) (b : Bytes l) (some : 1 ≤ length l) (most : length l ≤ 256) where
  nine : length (standard l) / 9 ≡ length l
  nine = omega (arith, length_standard l)

  passed : Passed 1 256 (standard l) l
  passed = read_passed 1 256 (standard l) l (read_standard 1 256 l b some most)

  clean_frame : clean (standard l) ≡ true
  clean_frame = passed.unhurt

  sound_frame : faulty (length l) (standard l) ≡ false
  sound_frame = rw nine at passed.sound

  bytes_frame : bytes_of (length l) (data_of (length l) (standard l)) ≡ l
  bytes_frame = rw nine at passed.bytes

-- its data bits
data_frame : (l : List ℕ) → data_of (length l) (standard l) ≡ air_bits l
unfolding data_of standard air_bits air_byte bits_of
data_frame [] = refl
data_frame (b ∷ l) = rw (data_frame l)

-- ---- SAK: "The answer is SAK and CRC_A"

pub reads_sak : (b : ℕ) → b < 256 → read_sak (sak_frame b) ≡ Ok b
unfolding read_sak sak_frame
reads_sak b h =
    let l : List ℕ = with_crc (b ∷ []) in
    let f : Bytes l = with_bytes (b ∷ []) (h, tt) in
    let n : length l ≡ 3 = length_with (b ∷ []) in
    let t : take 1 l ≡ b ∷ [] = unfold with_crc in refl in
    let g : get_or l 0 0 ≡ b = unfold with_crc in refl in
    rw (
      not_nil (standard l) (omega (arith, length_standard l)),
      length_standard l,
      n,
      clean_frame l f (omega arith) (omega arith),
      rw n at (sound_frame l f (omega arith) (omega arith)),
      rw n at (bytes_frame l f (omega arith) (omega arith)),
      t,
      same_refl l,
      g,
    )

-- ---- ATQA: "04 00, 44 00 or 84 00 for 4, 7, 10 bytes"

pub reads_atqa : (z : UidSize) → read_atqa (atqa z) ≡ (Ok tt)
unfolding read_atqa atqa standard air_byte bits_of odd ones first_wrong faulty clean is_nil same
reads_atqa Single = refl
reads_atqa Double = refl
reads_atqa Triple = refl

-- ---- ANTICOLLISION: "The answer is the other 40-k bits"

pub reads_others : (k : ℕ) (five : List ℕ) → k < 40 → Five five → read_rest k five (others k five) ≡ rest_of Whole (air_bits five)
unfolding read_rest others
reads_others k five h f =
    let n : length (standard five) ≡ 45 = rw (length_standard, f.full) in
    let m : length (drop (cut k) (standard five)) ≡ 45 - cut k = rw (length-drop, n) in
    let e : cut k + (45 - cut k) ≡ 45 = omega arith in
    let s : faulty 5 (standard five) ≡ false = rw f.full at (sound_frame five f.fits (omega (arith, f.full)) (omega (arith, f.full))) in
    let d : data_of 5 (standard five) ≡ air_bits five = rw f.full at (data_frame five) in
    let b : bytes_of 5 (air_bits five) ≡ five = rw f.full at (bytes_bits five f.fits) in
    let c : clean (air_bits five) ≡ true = bits_clean (air_bits five) (bits_air_bits five) in
    rw (
      take-append-drop (cut k) (standard five),
      not_nil (drop (cut k) (standard five)) (omega (arith, m)),
      m,
      e,
      d,
      c,
      faulty_drop 5 ((k + 7) / 8) (standard five) s,
      b,
      same_eq five (level (take 4 five)) f.checks,
      next_clean (air_bits five) c,
    )

-- ---- ATS: "Our card's ATS is 02, then FSCI, CRC_A"

at_least : (l : List ℕ) (k : ℕ) → All (λ s. 16 ≤ s) l → 16 ≤ get_or l k 256
at_least [] k h = omega arith
at_least (x ∷ l) zero h = h.0
at_least (x ∷ l) (suc k) h = at_least l k h.1

-- every reader's size has room for it
pub size_least : (i : ℕ) → 16 ≤ size i
unfolding size
size_least i =
    at_least (16 ∷ 24 ∷ 32 ∷ 40 ∷ 48 ∷ 64 ∷ 96 ∷ 128 ∷ []) i
    (omega arith, (omega arith, (omega arith, (omega arith, (omega arith, (omega arith, (omega arith, (omega arith, tt))))))))

pub reads_ats : (own i : ℕ) → i < 16 → read_ats own (ats i) ≡ Ok (at_most8 i)
unfolding read_ats ats ats_fits announced
reads_ats own i h =
    let l : List ℕ = with_crc (0x02 ∷ i ∷ []) in
    let n : length l ≡ 4 = length_with (0x02 ∷ i ∷ []) in
    let a : i / 16 % 2 + i / 32 % 2 + i / 64 % 2 ≡ 0 = omega arith in
    let m : i % 16 ≡ i = omega arith in
    rw (
      not_nil (standard l) (omega (arith, length_standard l)),
      read_crc_standard (size own) (0x02 ∷ i ∷ []) (omega arith, (omega arith, tt)) (omega arith) (omega (arith, size_least own)),
      lt-ltb i 0x80 (omega arith),
      a,
      m,
    )
