-- Worked frames of document 01 and of source document 004's traces, as one table of theorems on the definitions. Where a frame has bytes it is
-- stated on them: CRC_A written out, and parity as `standard` gives it.
use Rattle.std.specs.Prelude.{◌≡◌, refl, ℕ, List, [], ◌∷◌, ◌++◌, map}
use Rattle.parity.specs.Bits.{bits_of, ones, odd}
use Rattle.crc.specs.Crc.{shift, shifts, crc_byte, crc_from, crc_a, crc_bytes, with_crc}
use Rattle.frame.specs.Frame.{short, air_byte, standard}
use Rattle.refusal.specs.Refusal.{giving, declining, number_says}
use Rattle.selection.specs.Selection.{sel, nvb, reqa, wupa, hlta, anticollision, others, select, sak_frame, atqa, rats, ats, size}
use Rattle.selection.specs.Heard.{announced, ats_fits, ats_bytes}
use Rattle.uid.specs.declared.Level.TheVariants.{One, Two, Three}
use Rattle.uid.specs.declared.UidSize.TheVariants.{Single, Double, Triple}

-- the level of the UID 80122821
abbrev five : List ℕ
five = 0x80 ∷ 0x12 ∷ 0x28 ∷ 0x21 ∷ 0x9B ∷ []

pub record FrameTable : Type 0 where
  -- "REQA is 26, WUPA is 52": 7 bits, the least significant first
  pub reqa_bits : reqa ≡ 0 ∷ 1 ∷ 1 ∷ 0 ∷ 0 ∷ 1 ∷ 0 ∷ []
  pub wupa_bits : wupa ≡ 0 ∷ 1 ∷ 0 ∷ 0 ∷ 1 ∷ 0 ∷ 1 ∷ []
  -- "SEL (93, 95, 97 for levels 1, 2, 3)"
  pub sels : map sel (One ∷ Two ∷ Three ∷ []) ≡ 0x93 ∷ 0x95 ∷ 0x97 ∷ []
  -- NVB, "whole bytes sent, SEL and NVB included; .. bits left over": for k = 0, 7, 8, 31, 32, 39
  pub nvbs : map nvb (0 ∷ 7 ∷ 8 ∷ 31 ∷ 32 ∷ 39 ∷ []) ≡ 0x20 ∷ 0x27 ∷ 0x30 ∷ 0x57 ∷ 0x60 ∷ 0x67 ∷ []
  -- ANTICOLLISION of the level 80 12 28 21 9B and its answer, for k = 10 and 31 as in source document 004's first trace (93 32 80 and two bits, 93 57 80
  -- 12 28 and seven), and for k = 39. The remainder of a broken byte is followed by the parity of the whole byte
  pub sent_10 : anticollision One 10 five ≡ standard (0x93 ∷ 0x32 ∷ 0x80 ∷ []) ++ 0 ∷ 1 ∷ []
  pub heard_10 : others 10 five ≡ (0 ∷ 0 ∷ 1 ∷ 0 ∷ 0 ∷ 0 ∷ 1 ∷ []) ++ standard (0x28 ∷ 0x21 ∷ 0x9B ∷ [])
  pub sent_31 : anticollision One 31 five ≡ standard (0x93 ∷ 0x57 ∷ 0x80 ∷ 0x12 ∷ 0x28 ∷ []) ++ 1 ∷ 0 ∷ 0 ∷ 0 ∷ 0 ∷ 1 ∷ 0 ∷ []
  pub heard_31 : others 31 five ≡ (0 ∷ 1 ∷ []) ++ standard (0x9B ∷ [])
  pub sent_39 : anticollision One 39 five ≡ standard (0x93 ∷ 0x67 ∷ 0x80 ∷ 0x12 ∷ 0x28 ∷ 0x21 ∷ []) ++ 1 ∷ 1 ∷ 0 ∷ 1 ∷ 1 ∷ 0 ∷ 0 ∷ []
  pub heard_39 : others 39 five ≡ 1 ∷ 0 ∷ []
  -- "SELECT: SEL, 70, the five bytes, CRC_A", with the CRC_A of source document 004
  pub select_1 : select One five ≡ standard (0x93 ∷ 0x70 ∷ 0x80 ∷ 0x12 ∷ 0x28 ∷ 0x21 ∷ 0x9B ∷ 0x56 ∷ 0x7C ∷ [])
  pub select_2 : select Two (0x88 ∷ 0x80 ∷ 0x12 ∷ 0x28 ∷ 0x32 ∷ []) ≡ standard (0x95 ∷ 0x70 ∷ 0x88 ∷ 0x80 ∷ 0x12 ∷ 0x28 ∷ 0x32 ∷ 0x05 ∷ 0xB3 ∷ [])
  pub select_3 : select Three (0x21 ∷ 0x44 ∷ 0x00 ∷ 0x10 ∷ 0x75 ∷ []) ≡ standard (0x97 ∷ 0x70 ∷ 0x21 ∷ 0x44 ∷ 0x00 ∷ 0x10 ∷ 0x75 ∷ 0xDF ∷ 0x08 ∷ [])
  -- "SAK 04 while levels remain; at the end its last SAK, 20 if it speaks blocks, else 00", each with CRC_A
  pub saks : map sak_frame (0x04 ∷ 0x20 ∷ 0x00 ∷ []) ≡ map standard ((0x04 ∷ 0xDA ∷ 0x17 ∷ []) ∷ (0x20 ∷ 0xFC ∷ 0x70 ∷ []) ∷ (0x00 ∷ 0xFE ∷ 0x51 ∷ []) ∷ [])
  -- "ATQA 04 00, 44 00 or 84 00 for 4, 7, 10 bytes, first byte first"
  pub atqas : map atqa (Single ∷ Double ∷ Triple ∷ []) ≡ map standard ((0x04 ∷ 0x00 ∷ []) ∷ (0x44 ∷ 0x00 ∷ []) ∷ (0x84 ∷ 0x00 ∷ []) ∷ [])
  -- "HLTA: 50 00 and CRC_A"; RATS for FSDI 8, with CID 0; "Our card's ATS is 02, then FSCI, CRC_A"
  pub hlta_bytes : hlta ≡ standard (0x50 ∷ 0x00 ∷ 0x57 ∷ 0xCD ∷ [])
  pub rats_8 : rats 8 ≡ standard (0xE0 ∷ 0x80 ∷ 0x31 ∷ 0x73 ∷ [])
  pub ats_8 : ats 8 ≡ standard (0x02 ∷ 0x08 ∷ 0x58 ∷ 0xA1 ∷ [])
  -- "Sizes for index 0 to 8: 16, 24, 32, 40, 48, 64, 96, 128, 256; 9 to 15 read as 8"
  pub sizes : map size (0 ∷ 1 ∷ 2 ∷ 3 ∷ 4 ∷ 5 ∷ 6 ∷ 7 ∷ 8 ∷ 9 ∷ 15 ∷ []) ≡ 16 ∷ 24 ∷ 32 ∷ 40 ∷ 48 ∷ 64 ∷ 96 ∷ 128 ∷ 256 ∷ 256 ∷ 256 ∷ []
  -- ATS: "TL = 1 means size index 2"; with TC; an FSCI of 15
  pub ats_good : map (λ l. number_says (ats_bytes l)) ((0x01 ∷ []) ∷ (0x03 ∷ 0x44 ∷ 0x02 ∷ []) ∷ (0x02 ∷ 0x0F ∷ []) ∷ []) ≡ map giving ((2 ∷ []) ∷ (4 ∷ []) ∷ (8 ∷ []) ∷ [])
  -- .. TA, TB, TC announced without being there; T0 b8 set
  pub ats_bad : map (λ l. number_says (ats_bytes l)) ((0x02 ∷ 0x10 ∷ []) ∷ (0x02 ∷ 0x20 ∷ []) ∷ (0x02 ∷ 0x40 ∷ []) ∷ (0x02 ∷ 0x80 ∷ []) ∷ []) ≡ map declining (9 ∷ 9 ∷ 9 ∷ 9 ∷ [])

pub frame_table : FrameTable
unfolding bits_of ones odd shift shifts crc_byte crc_from crc_a crc_bytes with_crc short air_byte standard reqa wupa hlta anticollision others select sak_frame atqa rats ats size announced ats_fits
frame_table = record {
  reqa_bits = refl;
  wupa_bits = refl;
  sels = refl;
  nvbs = refl;
  sent_10 = refl;
  heard_10 = refl;
  sent_31 = refl;
  heard_31 = refl;
  sent_39 = refl;
  heard_39 = refl;
  select_1 = refl;
  select_2 = refl;
  select_3 = refl;
  saks = refl;
  atqas = refl;
  hlta_bytes = refl;
  rats_8 = refl;
  ats_8 = refl;
  sizes = refl;
  ats_good = refl;
  ats_bad = refl;
}
