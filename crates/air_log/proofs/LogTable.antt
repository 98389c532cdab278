-- Document 01, "The log": its examples, and one with a collision, as theorems on the definitions. Rows are written out bit by bit.
use Rattle.std.specs.Prelude.{◌≡◌, refl, ℕ, List, [], ◌∷◌, ◌++◌}
use Rattle.rows.specs.Rows.{clean, fill}
use Rattle.air_log.specs.Log.{from_top, packed, header, tick_bytes, plain, marks, sent_record, heard_record, sent_heard, exchange_bytes, log_bytes, entry_bytes}

-- REQA, 26
abbrev reqa : List ℕ
reqa = 0 ∷ 1 ∷ 1 ∷ 0 ∷ 0 ∷ 1 ∷ 0 ∷ []

-- ATQA 04 00, and the same sent together with 44 00
abbrev atqa : List ℕ
atqa = 0 ∷ 0 ∷ 1 ∷ 0 ∷ 0 ∷ 0 ∷ 0 ∷ 0 ∷ 0 ∷ 0 ∷ 0 ∷ 0 ∷ 0 ∷ 0 ∷ 0 ∷ 0 ∷ 0 ∷ 1 ∷ []

abbrev both : List ℕ
both = 0 ∷ 0 ∷ 1 ∷ 0 ∷ 0 ∷ 0 ∷ 2 ∷ 0 ∷ 2 ∷ 0 ∷ 0 ∷ 0 ∷ 0 ∷ 0 ∷ 0 ∷ 0 ∷ 0 ∷ 1 ∷ []

pub record LogTable : Type 0 where
  -- "A sweep of no cards writes exactly 00 07 64 C0 00", and "An ATQA 04 00 is 40 12 20 00 40": without ticks
  pub no_cards_law : sent_record [] reqa ++ heard_record [] [] ≡ 0x00 ∷ 0x07 ∷ 0x64 ∷ 0xC0 ∷ 0x00 ∷ []
  pub clean_atqa : heard_record [] atqa ≡ 0x40 ∷ 0x12 ∷ 0x20 ∷ 0x00 ∷ 0x40 ∷ []
  pub collided_atqa : heard_record [] both ≡ 0x80 ∷ 0x12 ∷ 0x20 ∷ 0x00 ∷ 0x40 ∷ 0x02 ∷ 0x80 ∷ 0x00 ∷ []
  -- T-09: "document 01's log examples are rewritten with tick 0 at the start (so 1 in the ATQA)"
  pub no_cards_0 : log_bytes 0 (sent_heard reqa [] ∷ []) ≡ 0x00 ∷ 0x07 ∷ 0 ∷ 0 ∷ 0 ∷ 0 ∷ 0x64 ∷ 0xC0 ∷ 0x00 ∷ 0 ∷ 0 ∷ 0 ∷ 1 ∷ []
  pub atqa_1 : heard_record (tick_bytes 1) atqa ≡ 0x40 ∷ 0x12 ∷ 0 ∷ 0 ∷ 0 ∷ 1 ∷ 0x20 ∷ 0x00 ∷ 0x40 ∷ []
  -- most significant byte first; "Ticks wrap"
  pub no_cards_last : log_bytes 0xFFFFFFFF (sent_heard reqa [] ∷ []) ≡ 0x00 ∷ 0x07 ∷ 0xFF ∷ 0xFF ∷ 0xFF ∷ 0xFF ∷ 0x64 ∷ 0xC0 ∷ 0x00 ∷ 0 ∷ 0 ∷ 0 ∷ 0 ∷ []
  pub tick : tick_bytes 0x12345678 ≡ 0x12 ∷ 0x34 ∷ 0x56 ∷ 0x78 ∷ []
  -- an entry of the found list: "length, bytes, zero fill"
  pub entry : entry_bytes (0x01 ∷ 0x02 ∷ 0x03 ∷ 0x04 ∷ []) ≡ 4 ∷ 1 ∷ 2 ∷ 3 ∷ 4 ∷ 0 ∷ 0 ∷ 0 ∷ 0 ∷ 0 ∷ 0 ∷ []

pub log_table : LogTable
unfolding clean fill from_top packed header tick_bytes plain marks sent_record heard_record exchange_bytes log_bytes entry_bytes
log_table = record {
  no_cards_law = refl;
  clean_atqa = refl;
  collided_atqa = refl;
  no_cards_0 = refl;
  atqa_1 = refl;
  no_cards_last = refl;
  tick = refl;
  entry = refl;
}
