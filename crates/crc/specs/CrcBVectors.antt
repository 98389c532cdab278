-- CRC_B: the values of ISO/IEC 14443-3's annex B, that of source document 001, and frames of Type B, worked out outside. One table of theorems on
-- the definitions. T-08: "Use the table for CRC_B too".
use Rattle.std.specs.Prelude.{◌≡◌, refl, true, false, [], ◌∷◌, map}
use Rattle.rows.specs.Rows.{same}
use Rattle.crc.specs.Crc.{shift, shifts, crc_byte, crc_from}
use Rattle.crc.specs.CrcOf.{crc_of, sent_of, with_of, good_of, crc_bytes_b, crc_good_b}

pub record CrcBTable : Type 0 where
  -- ISO/IEC 14443-3, annex B
  pub annex_1 : crc_bytes_b (0x00 ∷ 0x00 ∷ 0x00 ∷ []) ≡ 0xCC ∷ 0xC6 ∷ []
  pub annex_2 : crc_bytes_b (0x0F ∷ 0xAA ∷ 0xFF ∷ []) ≡ 0xFC ∷ 0xD1 ∷ []
  pub annex_3 : crc_bytes_b (0x0A ∷ 0x12 ∷ 0x34 ∷ 0x56 ∷ []) ≡ 0x2C ∷ 0xF6 ∷ []
  -- source document 001, ISO/IEC 15693-3's example
  pub vicinity : crc_bytes_b (0x01 ∷ 0x02 ∷ 0x03 ∷ 0x04 ∷ []) ≡ 0x91 ∷ 0x39 ∷ []
  -- REQB with 1, 2, 4, 8 and 16 slots, WUPB with 1 and 16
  pub requests : map (λ b. crc_bytes_b (0x05 ∷ 0x00 ∷ b ∷ [])) (0x00 ∷ 0x01 ∷ 0x02 ∷ 0x03 ∷ 0x04 ∷ 0x08 ∷ 0x0C ∷ [])
      ≡ (0x71 ∷ 0xFF ∷ []) ∷ (0xF8 ∷ 0xEE ∷ []) ∷ (0x63 ∷ 0xDC ∷ []) ∷ (0xEA ∷ 0xCD ∷ []) ∷ (0x55 ∷ 0xB9 ∷ [])
      ∷ (0x39 ∷ 0x73 ∷ []) ∷ (0x1D ∷ 0x35 ∷ []) ∷ []
  -- .. for the AFI 20
  pub transport : map (λ b. crc_bytes_b (0x05 ∷ 0x20 ∷ b ∷ [])) (0x00 ∷ 0x08 ∷ [])
      ≡ (0x42 ∷ 0xDC ∷ []) ∷ (0x0A ∷ 0x50 ∷ []) ∷ []
  -- Slot-MARKER of the slots 2 to 16
  pub markers : map (λ b. crc_bytes_b (b ∷ [])) (0x15 ∷ 0x25 ∷ 0x35 ∷ 0x45 ∷ 0x55 ∷ 0x65 ∷ 0x75 ∷ 0x85 ∷ 0x95 ∷ 0xA5 ∷ 0xB5 ∷ 0xC5 ∷ 0xD5 ∷ 0xE5 ∷ 0xF5 ∷ [])
      ≡ (0x54 ∷ 0xB7 ∷ []) ∷ (0xD7 ∷ 0x86 ∷ []) ∷ (0x56 ∷ 0x96 ∷ []) ∷ (0xD1 ∷ 0xE5 ∷ []) ∷ (0x50 ∷ 0xF5 ∷ [])
      ∷ (0xD3 ∷ 0xC4 ∷ []) ∷ (0x52 ∷ 0xD4 ∷ []) ∷ (0xDD ∷ 0x23 ∷ []) ∷ (0x5C ∷ 0x33 ∷ []) ∷ (0xDF ∷ 0x02 ∷ [])
      ∷ (0x5E ∷ 0x12 ∷ []) ∷ (0xD9 ∷ 0x61 ∷ []) ∷ (0x58 ∷ 0x71 ∷ []) ∷ (0xDB ∷ 0x40 ∷ []) ∷ (0x5A ∷ 0x50 ∷ []) ∷ []
  -- ATQB, ATTRIB, HLTB, and the answer 00
  pub atqb : crc_bytes_b (0x50 ∷ 0x11 ∷ 0x22 ∷ 0x33 ∷ 0x44 ∷ 0x00 ∷ 0x00 ∷ 0x00 ∷ 0x00 ∷ 0x00 ∷ 0x81 ∷ 0x81 ∷ []) ≡ 0x59 ∷ 0x5F ∷ []
  pub attrib : crc_bytes_b (0x1D ∷ 0x11 ∷ 0x22 ∷ 0x33 ∷ 0x44 ∷ 0x00 ∷ 0x08 ∷ 0x01 ∷ 0x00 ∷ []) ≡ 0xDB ∷ 0x35 ∷ []
  pub hltb : crc_bytes_b (0x50 ∷ 0x11 ∷ 0x22 ∷ 0x33 ∷ 0x44 ∷ []) ≡ 0x66 ∷ 0x4B ∷ []
  pub answer : crc_bytes_b (0x00 ∷ []) ≡ 0x78 ∷ 0xF0 ∷ []
  -- the register behind bytes and their CRC_B, and two tests of the last two bytes
  pub residue : crc_from 0xFFFF (0x0A ∷ 0x12 ∷ 0x34 ∷ 0x56 ∷ 0x2C ∷ 0xF6 ∷ []) ≡ 0xF0B8
  pub good : crc_good_b (0x00 ∷ 0x78 ∷ 0xF0 ∷ []) ≡ true
  pub swapped : crc_good_b (0x00 ∷ 0xF0 ∷ 0x78 ∷ []) ≡ false

pub crc_b_table : CrcBTable
unfolding shift shifts crc_byte crc_from crc_of sent_of with_of good_of same
crc_b_table = record {
  annex_1 = refl;
  annex_2 = refl;
  annex_3 = refl;
  vicinity = refl;
  requests = refl;
  transport = refl;
  markers = refl;
  atqb = refl;
  attrib = refl;
  hltb = refl;
  answer = refl;
  residue = refl;
  good = refl;
  swapped = refl;
}
