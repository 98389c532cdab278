-- Document 01, "RATS, ATS and blocks": the bytes of a block, and what block a frame's bytes are. Bytes are a frame's without CRC_A.
use Rattle.std.specs.Prelude.{ℕ, ◌+◌, ◌*◌, Bool, true, false, cond, ◌&&◌, List, [], ◌∷◌, length, get_or, replicate, eqb, leb}
use Rattle.rows.specs.Rows.{overlay}
use Rattle.refusal.specs.declared.Refusal.TheVariants.{Silence, Length}
use Rattle.frame.specs.Frame.{Verdict, Good, Fault}
use Rattle.selection.specs.Selection.{size}
use Rattle.block.specs.declared.BlockBytes.{BlockBytes}
use Rattle.block.specs.declared.Block.{Block}
use Rattle.block.specs.declared.Block.TheVariants.{I, Ack, Nak, Deselect, Wtx, Unknown, Nothing}

-- "The last bit of I and R is the block number"
abbrev pub bit : Bool → ℕ
bit false = 0
bit true = 1

-- "First byte of a block: I 02/03, chained 12/13; R(ACK) A2/A3; R(NAK) B2/B3; DESELECT C2; WTX F2"; the others are no blocks
abbrev pub first_byte : Block → ℕ
first_byte (I n chained) = 0x02 + bit n + 0x10 * bit chained
first_byte (Ack n) = 0xA2 + bit n
first_byte (Nak n) = 0xB2 + bit n
first_byte Deselect = 0xC2
first_byte (Wtx v) = 0xF2
first_byte Unknown = 0
first_byte Nothing = 0

-- a block's bytes, p the payload of an I; none are silence
abbrev pub block_bytes : Block → List ℕ → List ℕ
block_bytes (I n chained) p = first_byte (I n chained) ∷ p
block_bytes (Ack n) p = first_byte (Ack n) ∷ []
block_bytes (Nak n) p = first_byte (Nak n) ∷ []
block_bytes Deselect p = first_byte Deselect ∷ []
block_bytes (Wtx v) p = first_byte (Wtx v) ∷ v ∷ []
block_bytes Unknown p = []
block_bytes Nothing p = []

-- those bytes at the front of 256, zeros behind
unfoldable pub bytes_in : List ℕ → BlockBytes
bytes_in l = record { bytes = overlay (replicate 256 0) 0 l; count = length l }

-- the kind of block that a first byte begins; the value of a WTX is not read yet
unfoldable pub kind : ℕ → Block
kind f =
    cond (eqb f 0x02) (I false false) (cond (eqb f 0x03) (I true false) (cond (eqb f 0x12) (I false true) (cond (eqb f 0x13) (I true true)
    (cond (eqb f 0xA2) (Ack false) (cond (eqb f 0xA3) (Ack true) (cond (eqb f 0xB2) (Nak false) (cond (eqb f 0xB3) (Nak true)
    (cond (eqb f 0xC2) Deselect (cond (eqb f 0xF2) (Wtx 0) Unknown)))))))))

-- .. with what follows it: none, or one byte v, or more. After an I comes any payload, after F2 one byte, after the others none
abbrev pub whole : Block → Bool → Bool → ℕ → Block
whole (I n chained) none one v = I n chained
whole (Ack n) none one v = cond none (Ack n) Unknown
whole (Nak n) none one v = cond none (Nak n) Unknown
whole Deselect none one v = cond none Deselect Unknown
whole (Wtx w) none one v = cond one (Wtx v) Unknown
whole Unknown none one v = Unknown
whole Nothing none one v = Nothing

-- the block of a good frame's bytes
abbrev pub block_of : List ℕ → Block
block_of [] = Nothing
block_of (f ∷ p) = whole (kind f) (eqb (length p) 0) (eqb (length p) 1) (get_or p 0 0)

-- what an end makes of a frame: under blocks 7, 2, 3, 4 and 8 are damage or silence
abbrev pub heard_block : Verdict → Block
heard_block (Good l) = block_of l
heard_block (Fault e) = Nothing

-- an I, the one block that carries a part of a message
abbrev pub is_i : Block → Bool
is_i (I n chained) = true
is_i (Ack n) = false
is_i (Nak n) = false
is_i Deselect = false
is_i (Wtx v) = false
is_i Unknown = false
is_i Nothing = false

-- the bytes behind a frame's first
abbrev pub behind : List ℕ → List ℕ
behind [] = []
behind (f ∷ p) = p

abbrev pub payload : Verdict → List ℕ
payload (Good l) = behind l
payload (Fault e) = []

-- what an end of size index i makes of a frame of these bytes that arrives with right parity and CRC_A: no bytes are silence, 7, and more
-- than its size 2
abbrev pub verdict : ℕ → List ℕ → Verdict
verdict i [] = Fault Silence
verdict i (f ∷ p) = cond (leb (3 + length p) (size i)) (Good (f ∷ p)) (Fault Length)

-- WTX "with 1 to 59"
unfoldable pub wtx_ok : ℕ → Bool
wtx_ok v = leb 1 v && leb v 59
