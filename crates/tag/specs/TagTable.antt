-- Worked answers of one tag, and a write: one table of theorems on the definitions. The tag has the UID E004AB8967452301 (low byte first on the air) and two
-- blocks of four bytes, of which the second is locked. Assumes nothing.
use Rattle.std.specs.Prelude.{◌≡◌, refl, ℕ, true, false, List, [], ◌∷◌, ◌++◌}
use Rattle.rows.specs.Rows.{overlay}
use Rattle.parity.specs.Bits.{bits_of, unbits}
use Rattle.crc.specs.Crc.{shift, shifts, crc_byte, crc_from}
use Rattle.crc.specs.CrcOf.{crc_of, sent_of, with_of}
use Rattle.frame.specs.Frame.{air_bits, bytes_of}
use Rattle.frame_b.specs.FrameB.{frame_b}
use Rattle.request_v.specs.declared.Tag.{Tag}
use Rattle.request_v.specs.declared.StateV.{StateV}
use Rattle.request_v.specs.declared.StateV.TheVariants.{Ready}
use Rattle.request_v.specs.declared.Deed.TheVariants.{Tells, Fails, Reads, Writes, Selects}
use Rattle.tag.specs.Memory.{block_of, shown, shown_from}
use Rattle.tag.specs.Tag.{row_of, memory_after}

abbrev uid : List ℕ
uid = 0x01 ∷ 0x23 ∷ 0x45 ∷ 0x67 ∷ 0x89 ∷ 0xAB ∷ 0x04 ∷ 0xE0 ∷ []

abbrev tag : StateV → Tag
tag y = record { uid = uid; dsfid = 0x00; supports = true; afi = 0x21; blocks = 2; size = 4; state = y }

abbrev memory : List ℕ
memory = 0x11 ∷ 0x22 ∷ 0x33 ∷ 0x44 ∷ 0x55 ∷ 0x66 ∷ 0x77 ∷ 0x88 ∷ []

abbrev locks : List ℕ
locks = 0 ∷ 1 ∷ []

pub record TagTable : Type 0 where
  pub told : row_of (tag (Ready 0)) memory locks Tells ≡ air_bits (0x00 ∷ 0x00 ∷ (uid ++ (0x01 ∷ 0xDC ∷ [])))
  pub shows : row_of (tag (Ready 0)) memory locks (Reads 0 1 false) ≡ air_bits (0x00 ∷ 0x11 ∷ 0x22 ∷ 0x33 ∷ 0x44 ∷ 0x04 ∷ 0x3E ∷ [])
  pub shows_status : row_of (tag (Ready 0)) memory locks (Reads 0 1 true) ≡ air_bits (0x00 ∷ 0x00 ∷ 0x11 ∷ 0x22 ∷ 0x33 ∷ 0x44 ∷ 0xFC ∷ 0x06 ∷ [])
  pub good : row_of (tag (Ready 0)) memory locks Selects ≡ air_bits (0x00 ∷ 0x78 ∷ 0xF0 ∷ [])
  pub fails : row_of (tag (Ready 0)) memory locks (Fails 0x12) ≡ air_bits (0x01 ∷ 0x12 ∷ 0x0C ∷ 0x25 ∷ [])
  -- a write of block 1, four bytes of the row from byte 4 on
  pub written : memory_after 4 (air_bits (0 ∷ 0 ∷ 0 ∷ 0 ∷ 0xA1 ∷ 0xA2 ∷ 0xA3 ∷ 0xA4 ∷ [])) (Writes 1 1 4) memory ≡ 0x11 ∷ 0x22 ∷ 0x33 ∷ 0x44 ∷ 0xA1 ∷ 0xA2 ∷ 0xA3 ∷ 0xA4 ∷ []

pub tag_table : TagTable
unfolding row_of shown_from shown block_of overlay frame_b air_bits bytes_of bits_of unbits with_of sent_of crc_of crc_from crc_byte shifts shift
tag_table = record {
  told = refl;
  shows = refl;
  shows_status = refl;
  good = refl;
  fails = refl;
  written = refl;
}
