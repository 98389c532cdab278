-- Worked requests as theorems on the definitions, the UID E004AB8967452301 (low byte first on the air). Flags and layouts are those of source document
-- 001; the tables run once, over all of them. Assumes nothing.
use Rattle.std.specs.Prelude.{◌≡◌, refl, ℕ, true, false, List, [], ◌∷◌, ◌++◌}
use Rattle.rows.specs.Rows.{fill}
use Rattle.parity.specs.Bits.{bits_of, unbits}
use Rattle.crc.specs.Crc.{shift, shifts, crc_byte, crc_from}
use Rattle.crc.specs.CrcOf.{crc_of, sent_of, with_of, with_crc_b}
use Rattle.frame.specs.Frame.{air_bits, bytes_of}
use Rattle.sent_v.specs.Sent.{cut_mask, grown_mask, round_bytes, request_bytes}
use Rattle.sent_v.specs.declared.Mode.{Mode}
use Rattle.sent_v.specs.declared.Mode.TheVariants.{Addressed, Any, Chosen}
use Rattle.sent_v.specs.declared.Round.{Round}
use Rattle.sent_v.specs.declared.Head.{Head}

abbrev uid : List ℕ
uid = 0x01 ∷ 0x23 ∷ 0x45 ∷ 0x67 ∷ 0x89 ∷ 0xAB ∷ 0x04 ∷ 0xE0 ∷ []

abbrev mask : ℕ → ℕ → List ℕ
mask a b = a ∷ b ∷ 0 ∷ 0 ∷ 0 ∷ 0 ∷ 0 ∷ 0 ∷ []

abbrev round : ℕ → List ℕ → Round
round len m = record { one = false; asks = false; afi = 0; len = len; mask = m }

abbrev head : Mode → ℕ → Head
head m code = record { mode = m; uid = uid; option = false; code = code }

pub record SentTable : Type 0 where
  -- inventory of one slot, of 16, with AFI 10, with the mask 1 of four bits, with 001's example: 4CF of 12 bits
  pub one_slot : with_crc_b (round_bytes (record { one = true; asks = false; afi = 0; len = 0; mask = mask 0 0 })) ≡ 0x26 ∷ 0x01 ∷ 0x00 ∷ 0xF6 ∷ 0x0A ∷ []
  pub sixteen : with_crc_b (round_bytes (round 0 (mask 0 0))) ≡ 0x06 ∷ 0x01 ∷ 0x00 ∷ 0xCD ∷ 0x09 ∷ []
  pub family : with_crc_b (round_bytes (record { one = false; asks = true; afi = 0x10; len = 0; mask = mask 0 0 })) ≡ 0x16 ∷ 0x01 ∷ 0x10 ∷ 0x00 ∷ 0xA8 ∷ 0xBB ∷ []
  pub four_bits : with_crc_b (round_bytes (round 4 (mask 0x01 0))) ≡ 0x06 ∷ 0x01 ∷ 0x04 ∷ 0x01 ∷ 0x71 ∷ 0x9B ∷ []
  pub twelve_bits : with_crc_b (round_bytes (round 12 (mask 0xCF 0xF4))) ≡ 0x06 ∷ 0x01 ∷ 0x0C ∷ 0xCF ∷ 0x04 ∷ 0xB1 ∷ 0x42 ∷ []
  -- slot 1 behind the mask 1 of four bits, and slot F behind that
  pub grown : grown_mask (mask 0x01 0) 4 1 ≡ mask 0x11 0
  pub grown_again : grown_mask (mask 0x11 0) 8 0xF ≡ mask 0x11 0x0F
  pub stay_quiet : with_crc_b (request_bytes (head Addressed 0x02) [] []) ≡ 0x22 ∷ 0x02 ∷ (uid ++ (0x00 ∷ 0xB3 ∷ []))
  pub read_any : with_crc_b (request_bytes (head Any 0x20) (0x0B ∷ []) []) ≡ 0x02 ∷ 0x20 ∷ 0x0B ∷ 0x94 ∷ 0xEE ∷ []
  pub read_selected : with_crc_b (request_bytes (head Chosen 0x20) (0x0B ∷ []) []) ≡ 0x12 ∷ 0x20 ∷ 0x0B ∷ 0x01 ∷ 0x6B ∷ []
  pub read_status : with_crc_b (request_bytes (record { mode = Addressed; uid = uid; option = true; code = 0x20 }) (0x0B ∷ []) []) ≡ 0x62 ∷ 0x20 ∷ (uid ++ (0x0B ∷ 0xE6 ∷ 0x77 ∷ []))
  pub write : with_crc_b (request_bytes (head Addressed 0x21) (0x0B ∷ []) (0x11 ∷ 0x22 ∷ 0x33 ∷ 0x44 ∷ []))
      ≡ 0x22 ∷ 0x21 ∷ (uid ++ (0x0B ∷ 0x11 ∷ 0x22 ∷ 0x33 ∷ 0x44 ∷ 0x38 ∷ 0x1B ∷ []))
  pub reset_any : with_crc_b (request_bytes (head Any 0x26) [] []) ≡ 0x02 ∷ 0x26 ∷ 0xC3 ∷ 0x78 ∷ []

pub sent_table : SentTable
unfolding round_bytes request_bytes cut_mask grown_mask fill bytes_of air_bits bits_of unbits with_of sent_of crc_of crc_from crc_byte shifts shift
sent_table = record {
  one_slot = refl;
  sixteen = refl;
  family = refl;
  four_bits = refl;
  twelve_bits = refl;
  grown = refl;
  grown_again = refl;
  stay_quiet = refl;
  read_any = refl;
  read_selected = refl;
  read_status = refl;
  write = refl;
  reset_any = refl;
}
