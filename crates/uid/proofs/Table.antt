-- Document 01, "Numbers to check by", marked P: one table of theorems on the definitions.
use Rattle.std.specs.Prelude.{◌≡◌, refl, [], ◌∷◌}
use Rattle.rows.specs.Rows.{any}
use Rattle.parity.specs.Bits.{bits_of}
use Rattle.crc.specs.Crc.{shift, shifts, crc_byte, crc_from, crc_a, crc_bytes}
use Rattle.frame.specs.Frame.{air_bits}
use Rattle.uid.specs.Order.{diff, later, above, is_up, insert_on, sort_on, one, count, parts_at, parts}
use Rattle.uid.specs.Uid.{check, level, levels, air, row_of, falling, frame_sum}
use Rattle.uid.specs.declared.Uid.{Uid}
use Rattle.uid.specs.declared.UidSize.TheVariants.{Single, Double}

-- the UIDs 01020304, 80122821 and 04112233445566
abbrev low : Uid
low = record { size = Single; bytes = 0x01 ∷ 0x02 ∷ 0x03 ∷ 0x04 ∷ 0 ∷ 0 ∷ 0 ∷ 0 ∷ 0 ∷ 0 ∷ [] }

abbrev high : Uid
high = record { size = Single; bytes = 0x80 ∷ 0x12 ∷ 0x28 ∷ 0x21 ∷ 0 ∷ 0 ∷ 0 ∷ 0 ∷ 0 ∷ 0 ∷ [] }

abbrev seven : Uid
seven = record { size = Double; bytes = 0x04 ∷ 0x11 ∷ 0x22 ∷ 0x33 ∷ 0x44 ∷ 0x55 ∷ 0x66 ∷ 0 ∷ 0 ∷ 0 ∷ [] }

pub record Table : Type 0 where
  -- "CRC_A: 00 00 gives A0 1E; 12 34 gives 26 CF; 50 00 gives 57 CD; 95 70 88 80 12 28 32 gives 05 B3; 97 70 21 44 00 10 75 gives DF 08"
  pub crc_1 : crc_bytes (0x00 ∷ 0x00 ∷ []) ≡ 0xA0 ∷ 0x1E ∷ []
  pub crc_2 : crc_bytes (0x12 ∷ 0x34 ∷ []) ≡ 0x26 ∷ 0xCF ∷ []
  pub crc_3 : crc_bytes (0x50 ∷ 0x00 ∷ []) ≡ 0x57 ∷ 0xCD ∷ []
  pub crc_4 : crc_bytes (0x95 ∷ 0x70 ∷ 0x88 ∷ 0x80 ∷ 0x12 ∷ 0x28 ∷ 0x32 ∷ []) ≡ 0x05 ∷ 0xB3 ∷ []
  pub crc_5 : crc_bytes (0x97 ∷ 0x70 ∷ 0x21 ∷ 0x44 ∷ 0x00 ∷ 0x10 ∷ 0x75 ∷ []) ≡ 0xDF ∷ 0x08 ∷ []
  -- "B: 80 12 28 21 gives 9B; 88 80 12 28 gives 32"
  pub b_1 : check (0x80 ∷ 0x12 ∷ 0x28 ∷ 0x21 ∷ []) ≡ 0x9B
  pub b_2 : check (0x88 ∷ 0x80 ∷ 0x12 ∷ 0x28 ∷ []) ≡ 0x32
  -- "Frames: no cards 1; 01020304 and 80122821: 10, in that order; these and 04112233445566: 17, that one second; it and 01020304 alone: 12"
  pub frames_none : frame_sum [] ≡ 1
  pub order_two : falling (high ∷ low ∷ []) ≡ low ∷ high ∷ []
  pub frames_two : frame_sum (low ∷ high ∷ []) ≡ 10
  pub order_three : falling (seven ∷ high ∷ low ∷ []) ≡ low ∷ seven ∷ high ∷ []
  pub frames_three : frame_sum (low ∷ seven ∷ high ∷ []) ≡ 17
  pub order_both : falling (seven ∷ low ∷ []) ≡ low ∷ seven ∷ []
  pub frames_both : frame_sum (low ∷ seven ∷ []) ≡ 12

pub table : Table
unfolding any bits_of shift shifts crc_byte crc_from crc_a crc_bytes air_bits diff later above is_up insert_on sort_on one count parts_at parts check level levels air row_of falling frame_sum
table = record {
  crc_1 = refl;
  crc_2 = refl;
  crc_3 = refl;
  crc_4 = refl;
  crc_5 = refl;
  b_1 = refl;
  b_2 = refl;
  frames_none = refl;
  order_two = refl;
  frames_two = refl;
  order_three = refl;
  frames_three = refl;
  order_both = refl;
  frames_both = refl;
}
