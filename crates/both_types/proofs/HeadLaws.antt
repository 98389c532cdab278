-- How frames begin: those of Type A's levels with SEL and its parity, and no frame of Type B so. Assumes nothing.
use Rattle.std.specs.Prelude.{◌≡◌, refl, ◌≢◌, ℕ, ◌-◌, ◌%◌, ◌≤◌, ◌<◌, List, [], ◌∷◌, ◌++◌, take, get_or}
use Rattle.std.proofs.Common.{sym, ap, ◌∙◌, append_assoc, take_at, take-take, get_or-take, arith}
use Rattle.parity.specs.BitLaws.{length_bits, unbits_bits}
use Rattle.parity.specs.Bits.{bits_of, unbits, odd, ones}
use Rattle.crc.specs.Crc.{with_crc, crc_from, crc_byte, shifts, shift}
use Rattle.crc.specs.CrcOf.{crc_of, sent_of, with_of}
use Rattle.frame.specs.Frame.{air_byte, standard, air_bits}
use Rattle.frame.proofs.FrameLaws.{length_air_byte}
use Rattle.selection.specs.Selection.{sel, nvb, cut, anticollision, select}
use Rattle.frame_b.specs.FrameB.{frame_b}
use Rattle.frame_b.specs.FrameBLaws.{first_bits}
use Rattle.selection_b.specs.TypeB.{marker_byte, marker}
use Rattle.uid.specs.declared.Level.{Level}
use Rattle.uid.specs.declared.Level.TheVariants.{One, Two, Three}

-- ---- the frames of a level begin with SEL and its parity

head_standard : (b : ℕ) (l r : List ℕ) → take 9 (standard (b ∷ l) ++ r) ≡ air_byte b
unfolding standard
head_standard b l r = rw append_assoc (take_at (air_byte b) (standard l ++ r) 9 (length_air_byte b))

pub head_anti : (l : Level) (k : ℕ) (five : List ℕ) → take 9 (anticollision l k five) ≡ air_byte (sel l)
unfolding anticollision
head_anti l k five = head_standard (sel l) (nvb k ∷ []) (take (cut k) (standard five))

pub head_select : (l : Level) (five : List ℕ) → take 9 (select l five) ≡ air_byte (sel l)
unfolding select with_crc standard
head_select l five = take_at (air_byte (sel l)) _ 9 (length_air_byte (sel l))

-- ---- a first byte that is no SEL

sel_byte : (l : Level) → sel l < 256
sel_byte One = omega arith
sel_byte Two = omega arith
sel_byte Three = omega arith

first_byte_law : (b : ℕ) (l : List ℕ) (v : Level) → b < 256 → take 9 (frame_b (b ∷ l)) ≡ air_byte (sel v) → b ≡ sel v
unfolding air_byte
first_byte_law b l v h e =
    let q : bits_of 8 b ≡ bits_of 8 (sel v) =
    sym (first_bits b l) ∙ sym (take-take 8 9 (frame_b (b ∷ l)) (omega arith)) ∙ ap (take 8) e ∙ take_at (bits_of 8 (sel v)) (odd (bits_of 8 (sel v)) ∷ []) 8 (length_bits 8 (sel v)) in
    sym (unbits_bits 8 b h) ∙ ap unbits q ∙ unbits_bits 8 (sel v) (sel_byte v)

pub headed_by : (b : ℕ) (l : List ℕ) → b < 0x93 → (v : Level) → take 9 (frame_b (b ∷ l)) ≢ air_byte (sel v)
headed_by b l h One e = omega (arith, first_byte_law b l One (omega arith) e)
headed_by b l h Two e = omega (arith, first_byte_law b l Two (omega arith) e)
headed_by b l h Three e = omega (arith, first_byte_law b l Three (omega arith) e)

-- the marker of slot 10 has SEL of level 2 as its first byte, and the bit behind it is not that byte's parity
slot_10 : get_or (marker 10) 8 0 ≡ 0
unfolding marker frame_b crc_of sent_of with_of crc_from crc_byte shifts shift air_bits bits_of
slot_10 = refl

parity_95 : get_or (air_byte 0x95) 8 0 ≡ 1
unfolding air_byte odd ones bits_of
parity_95 = refl

pub headed_marker : (s : ℕ) → 2 ≤ s → s ≤ 16 → (v : Level) → take 9 (marker s) ≢ air_byte (sel v)
unfolding marker
headed_marker s a b One e = omega (arith, first_byte_law (marker_byte s) [] One (omega arith) e)
headed_marker s a b Two e =
    let y : (s - 1) % 16 ≡ s - 1 = omega arith in
    let z : s ≡ 10 = omega (arith, first_byte_law (marker_byte s) [] Two (omega arith) e) in
    let q : get_or (take 9 (marker 10)) 8 0 ≡ get_or (air_byte 0x95) 8 0 = ap (λ r. get_or r 8 0) (rw z at e) in
    omega (arith, q, get_or-take 9 (marker 10) 8 0 (omega arith), slot_10, parity_95)
headed_marker s a b Three e = omega (arith, first_byte_law (marker_byte s) [] Three (omega arith) e)
