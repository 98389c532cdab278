-- Frames of Type B by value, with CRC_B: one table of theorems.
use Rattle.std.specs.Prelude.{◌≡◌, refl, true, false, [], ◌∷◌}
use Rattle.crc.specs.Crc.{crc_from, crc_byte, shifts, shift}
use Rattle.crc.specs.CrcOf.{crc_of, sent_of, with_of}
use Rattle.frame.specs.Frame.{air_bits}
use Rattle.frame_b.specs.FrameB.{frame_b}
use Rattle.selection_b.specs.TypeB.{code_of, param, request, marker, atqb_bytes, kind_of, parameters_for, attrib, attrib_for, hltb, done}

pub record FrameBTable : Type 0 where
  -- REQB for every N, WUPB, and an AFI
  pub reqb_1 : request false 1 0x00 ≡ air_bits (0x05 ∷ 0x00 ∷ 0x00 ∷ 0x71 ∷ 0xFF ∷ [])
  pub reqb_2 : request false 2 0x00 ≡ air_bits (0x05 ∷ 0x00 ∷ 0x01 ∷ 0xF8 ∷ 0xEE ∷ [])
  pub reqb_4 : request false 4 0x00 ≡ air_bits (0x05 ∷ 0x00 ∷ 0x02 ∷ 0x63 ∷ 0xDC ∷ [])
  pub reqb_8 : request false 8 0x00 ≡ air_bits (0x05 ∷ 0x00 ∷ 0x03 ∷ 0xEA ∷ 0xCD ∷ [])
  pub reqb_16 : request false 16 0x00 ≡ air_bits (0x05 ∷ 0x00 ∷ 0x04 ∷ 0x55 ∷ 0xB9 ∷ [])
  pub wupb_1 : request true 1 0x00 ≡ air_bits (0x05 ∷ 0x00 ∷ 0x08 ∷ 0x39 ∷ 0x73 ∷ [])
  pub wupb_16 : request true 16 0x00 ≡ air_bits (0x05 ∷ 0x00 ∷ 0x0C ∷ 0x1D ∷ 0x35 ∷ [])
  pub reqb_20 : request false 1 0x20 ≡ air_bits (0x05 ∷ 0x20 ∷ 0x00 ∷ 0x42 ∷ 0xDC ∷ [])
  -- the markers of slots 2, 10 and 16
  pub marker_2 : marker 2 ≡ air_bits (0x15 ∷ 0x54 ∷ 0xB7 ∷ [])
  pub marker_10 : marker 10 ≡ air_bits (0x95 ∷ 0x5C ∷ 0x33 ∷ [])
  pub marker_16 : marker 16 ≡ air_bits (0xF5 ∷ 0x5A ∷ 0x50 ∷ [])
  pub atqb : frame_b (atqb_bytes (0x11 ∷ 0x22 ∷ 0x33 ∷ 0x44 ∷ []) (0 ∷ 0 ∷ 0 ∷ 0 ∷ []) (0x00 ∷ 0x81 ∷ 0x81 ∷ []))
      ≡ air_bits (0x50 ∷ 0x11 ∷ 0x22 ∷ 0x33 ∷ 0x44 ∷ 0 ∷ 0 ∷ 0 ∷ 0 ∷ 0x00 ∷ 0x81 ∷ 0x81 ∷ 0x59 ∷ 0x5F ∷ [])
  -- to that card, with size index 8
  pub attrib : attrib_for (0x50 ∷ 0x11 ∷ 0x22 ∷ 0x33 ∷ 0x44 ∷ 0 ∷ 0 ∷ 0 ∷ 0 ∷ 0x00 ∷ 0x81 ∷ 0x81 ∷ []) 8
      ≡ air_bits (0x1D ∷ 0x11 ∷ 0x22 ∷ 0x33 ∷ 0x44 ∷ 0x00 ∷ 0x08 ∷ 0x01 ∷ 0x00 ∷ 0xDB ∷ 0x35 ∷ [])
  pub hltb : hltb (0x11 ∷ 0x22 ∷ 0x33 ∷ 0x44 ∷ []) ≡ air_bits (0x50 ∷ 0x11 ∷ 0x22 ∷ 0x33 ∷ 0x44 ∷ 0x66 ∷ 0x4B ∷ [])
  pub done : done ≡ air_bits (0x00 ∷ 0x78 ∷ 0xF0 ∷ [])

pub frame_b_table : FrameBTable
unfolding crc_from crc_byte shifts shift crc_of sent_of with_of frame_b code_of param request marker atqb_bytes kind_of parameters_for attrib attrib_for hltb done
frame_b_table = record {
  reqb_1 = refl;
  reqb_2 = refl;
  reqb_4 = refl;
  reqb_8 = refl;
  reqb_16 = refl;
  wupb_1 = refl;
  wupb_16 = refl;
  reqb_20 = refl;
  marker_2 = refl;
  marker_10 = refl;
  marker_16 = refl;
  atqb = refl;
  attrib = refl;
  hltb = refl;
  done = refl;
}
