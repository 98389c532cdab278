-- Document 01, "RATS, ATS and blocks": its values as one table of theorems, so that a definition cannot change together with its code.
use Rattle.std.specs.Prelude.{◌≡◌, refl, ℕ, true, false, List, [], ◌∷◌, map}
use Rattle.refusal.specs.declared.Refusal.TheVariants.{Silence, Length}
use Rattle.frame.specs.Frame.{Good, Fault}
use Rattle.selection.specs.Selection.{size}
use Rattle.block.specs.declared.Block.{Block}
use Rattle.block.specs.declared.Block.TheVariants.{I, Ack, Nak, Deselect, Wtx, Unknown}
use Rattle.block.specs.Block.{first_byte, block_bytes, kind, block_of, verdict, wtx_ok}
use Rattle.block.specs.Cut.{payload_max, follows, part, fewest, fits, cut_from, cut}

-- the ten kinds of a block, in document 01's order, and their first bytes: "I 02/03, chained 12/13; R(ACK) A2/A3; R(NAK) B2/B3; DESELECT C2;
-- WTX F2". "The last bit of I and R is the block number"
abbrev pub kinds : List Block
kinds =
    I false false ∷ I true false ∷ I false true ∷ I true true ∷ Ack false ∷ Ack true ∷ Nak false ∷ Nak true ∷ Deselect ∷ Wtx 0 ∷ []

abbrev pub firsts : List ℕ
firsts = 0x02 ∷ 0x03 ∷ 0x12 ∷ 0x13 ∷ 0xA2 ∷ 0xA3 ∷ 0xB2 ∷ 0xB3 ∷ 0xC2 ∷ 0xF2 ∷ []

pub record BlockTable : Type 0 where
  pub written : map first_byte kinds ≡ firsts
  pub read : map kind firsts ≡ kinds
  -- the same with CID or NAD, an S block that is neither, and a byte that begins nothing
  pub others : map kind (0x0A ∷ 0x06 ∷ 0xAA ∷ 0xBA ∷ 0xCA ∷ 0xFA ∷ 0xD2 ∷ 0x00 ∷ [])
      ≡ Unknown ∷ Unknown ∷ Unknown ∷ Unknown ∷ Unknown ∷ Unknown ∷ Unknown ∷ Unknown ∷ []
  -- an I has any payload, also none
  pub empty_i : block_of (block_bytes (I true false) []) ≡ I true false
  pub some_i : block_of (block_bytes (I false true) (0xA2 ∷ 0xF2 ∷ [])) ≡ I false true
  -- R and DESELECT have none
  pub ack_with : block_of (0xA2 ∷ 0x00 ∷ []) ≡ Unknown
  pub nak_with : block_of (0xB3 ∷ 0x00 ∷ []) ≡ Unknown
  pub deselect_with : block_of (0xC2 ∷ 0x00 ∷ []) ≡ Unknown
  -- WTX has one byte, its value
  pub wtx_none : block_of (0xF2 ∷ []) ≡ Unknown
  pub wtx_one : block_of (0xF2 ∷ 59 ∷ []) ≡ Wtx 59
  pub wtx_two : block_of (0xF2 ∷ 1 ∷ 1 ∷ []) ≡ Unknown
  pub wtx_written : block_bytes (Wtx 59) [] ≡ 0xF2 ∷ 59 ∷ []
  -- "WTX with 1 to 59"
  pub wtx_values : map wtx_ok (0 ∷ 1 ∷ 59 ∷ 60 ∷ []) ≡ false ∷ true ∷ true ∷ false ∷ []
  -- "Sizes for index 0 to 8: 16, 24, 32, 40, 48, 64, 96, 128, 256; 9 to 15 read as 8"; "Payload is at most size - 3"
  pub payloads : map payload_max (0 ∷ 1 ∷ 2 ∷ 3 ∷ 4 ∷ 5 ∷ 6 ∷ 7 ∷ 8 ∷ 9 ∷ []) ≡ 13 ∷ 21 ∷ 29 ∷ 37 ∷ 45 ∷ 61 ∷ 93 ∷ 125 ∷ 253 ∷ 253 ∷ []
  -- a frame of the size is taken, 13 bytes of payload at index 0; one byte more is 2, and no bytes are 7
  pub just_taken : verdict 0 (0x02 ∷ 1 ∷ 2 ∷ 3 ∷ 4 ∷ 5 ∷ 6 ∷ 7 ∷ 8 ∷ 9 ∷ 10 ∷ 11 ∷ 12 ∷ 13 ∷ []) ≡ Good (0x02 ∷ 1 ∷ 2 ∷ 3 ∷ 4 ∷ 5 ∷ 6 ∷ 7 ∷ 8 ∷ 9 ∷ 10 ∷ 11 ∷ 12 ∷ 13 ∷ [])
  pub too_long : verdict 0 (0x02 ∷ 1 ∷ 2 ∷ 3 ∷ 4 ∷ 5 ∷ 6 ∷ 7 ∷ 8 ∷ 9 ∷ 10 ∷ 11 ∷ 12 ∷ 13 ∷ 14 ∷ []) ≡ Fault Length
  pub silent : verdict 0 [] ≡ Fault Silence
  -- "in the fewest blocks ..; the empty one is one empty block": 0, 13, 14 and 4,096 bytes at index 0, and 253, 254 at index 8
  pub fewest_16 : map (fewest 0) (0 ∷ 13 ∷ 14 ∷ 4096 ∷ []) ≡ 1 ∷ 1 ∷ 2 ∷ 316 ∷ []
  pub fewest_256 : map (fewest 8) (253 ∷ 254 ∷ 4096 ∷ []) ≡ 1 ∷ 2 ∷ 17 ∷ []
  -- the last block is not chained, also where it is full
  pub last_full : map (follows 0 0) (0 ∷ 13 ∷ 14 ∷ []) ≡ false ∷ false ∷ true ∷ []
  -- 14 bytes at index 0, the first block with number 0; and the empty message, with number 1
  pub two_blocks : cut 0 false (1 ∷ 2 ∷ 3 ∷ 4 ∷ 5 ∷ 6 ∷ 7 ∷ 8 ∷ 9 ∷ 10 ∷ 11 ∷ 12 ∷ 13 ∷ 14 ∷ [])
      ≡ (0x12 ∷ 1 ∷ 2 ∷ 3 ∷ 4 ∷ 5 ∷ 6 ∷ 7 ∷ 8 ∷ 9 ∷ 10 ∷ 11 ∷ 12 ∷ 13 ∷ []) ∷ (0x03 ∷ 14 ∷ []) ∷ []
  pub one_empty : cut 0 true [] ≡ (0x03 ∷ []) ∷ []
  -- "over 4,096 bytes or over the buffer"
  pub message_fits : map (λ n. fits n 5000) (4096 ∷ 4097 ∷ []) ≡ true ∷ false ∷ []
  pub buffer_fits : map (λ n. fits n 20) (0 ∷ 20 ∷ 21 ∷ []) ≡ true ∷ true ∷ false ∷ []

pub block_table : BlockTable
unfolding kind wtx_ok size payload_max fewest follows part fits cut_from cut
block_table = record {
  written = refl;
  read = refl;
  others = refl;
  empty_i = refl;
  some_i = refl;
  ack_with = refl;
  nak_with = refl;
  deselect_with = refl;
  wtx_none = refl;
  wtx_one = refl;
  wtx_two = refl;
  wtx_written = refl;
  wtx_values = refl;
  payloads = refl;
  just_taken = refl;
  too_long = refl;
  silent = refl;
  fewest_16 = refl;
  fewest_256 = refl;
  last_full = refl;
  two_blocks = refl;
  one_empty = refl;
  message_fits = refl;
  buffer_fits = refl;
}
