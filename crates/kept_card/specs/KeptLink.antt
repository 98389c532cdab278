-- A card's end of the block protocol kept in lent bytes, by places from the state's front:
--     20 zero, 21 own size index, 22 the reader's, 23 block number (0: it is 1), 24 phase, 25 the WTX that it waits for,
--     26 last block, 27 its number or its WTX, 28 chained, 29 bytes joined, 37 place in the answer (eight bytes each, the low byte first).
-- Zeros are the link of a card outside Protocol.
use Rattle.std.specs.Prelude.{ℕ, ◌<◌, Bool, true, false, cond, List, ◌∷◌, ◌++◌, get_or, eqb}
use Rattle.block.specs.declared.Block.{Block}
use Rattle.block.specs.declared.Block.TheVariants.{I, Ack, Nak, Deselect, Wtx, Unknown, Nothing}
use Rattle.card_blocks.specs.declared.CardPhase.{CardPhase}
use Rattle.card_blocks.specs.declared.CardPhase.TheVariants.{Receiving, Owing, Waiting, Answering}
use Rattle.card_blocks.specs.declared.CardLink.{CardLink}
use Rattle.kept.specs.Kept.{word, number, flag, flag_of}

-- a card starts at 1, and a card without a link has it so
abbrev pub number_tag : Bool → ℕ
number_tag n = cond n 0 1

abbrev pub number_in : ℕ → Bool
number_in b = cond (eqb b 1) false true

abbrev pub phase_tag : CardPhase → ℕ
phase_tag Receiving = 0
phase_tag Owing = 1
phase_tag (Waiting w) = 2
phase_tag Answering = 3

abbrev pub phase_wtx : CardPhase → ℕ
phase_wtx Receiving = 0
phase_wtx Owing = 0
phase_wtx (Waiting w) = w
phase_wtx Answering = 0

abbrev pub phase_in : ℕ → ℕ → CardPhase
phase_in t w = cond (eqb t 0) Receiving (cond (eqb t 1) Owing (cond (eqb t 2) (Waiting w) Answering))

abbrev pub block_tag : Block → ℕ
block_tag (I n chained) = 1
block_tag (Ack n) = 2
block_tag (Nak n) = 3
block_tag Deselect = 4
block_tag (Wtx w) = 5
block_tag Unknown = 6
block_tag Nothing = 0

abbrev pub block_first : Block → ℕ
block_first (I n chained) = flag n
block_first (Ack n) = flag n
block_first (Nak n) = flag n
block_first Deselect = 0
block_first (Wtx w) = w
block_first Unknown = 0
block_first Nothing = 0

abbrev pub block_second : Block → ℕ
block_second (I n chained) = flag chained
block_second (Ack n) = 0
block_second (Nak n) = 0
block_second Deselect = 0
block_second (Wtx w) = 0
block_second Unknown = 0
block_second Nothing = 0

abbrev pub block_in : ℕ → ℕ → ℕ → Block
block_in t x y =
    cond (eqb t 0) Nothing
    (cond (eqb t 1) (I (flag_of x) (flag_of y))
    (cond (eqb t 2) (Ack (flag_of x))
    (cond (eqb t 3) (Nak (flag_of x))
    (cond (eqb t 4) Deselect
    (cond (eqb t 5) (Wtx x) Unknown)))))

unfoldable pub link_bytes : CardLink → List ℕ
link_bytes l =
    0 ∷ l.own ∷ l.reader ∷ number_tag l.number ∷ phase_tag l.phase ∷ phase_wtx l.phase
    ∷ block_tag l.last ∷ block_first l.last ∷ block_second l.last ∷ (word 8 l.joined ++ word 8 l.at)

-- every row of bytes is one link
unfoldable pub link_in : List ℕ → CardLink
link_in b = record {
  own = get_or b 21 0;
  reader = get_or b 22 0;
  number = number_in (get_or b 23 0);
  phase = phase_in (get_or b 24 0) (get_or b 25 0);
  last = block_in (get_or b 26 0) (get_or b 27 0) (get_or b 28 0);
  joined = number 8 b 29;
  at = number 8 b 37;
}

-- what every link in memory has: numbers of 64 bits
abbrev pub Sized : CardLink → Type 0
Sized l = (l.joined < 18446744073709551616) × (l.at < 18446744073709551616)
