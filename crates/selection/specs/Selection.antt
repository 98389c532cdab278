-- Document 01, "Frames on the air", "The card" (ATQA, SAK) and "RATS, ATS and blocks" (RATS, ATS, sizes): the frames of a selection.
-- A level on the air is one row of 45 bits, its five bytes with parity. Where k of its 40 data bits are known, the reader has sent
-- the first k + k / 8 of them and the card answers the rest.
use Rattle.std.specs.Prelude.{ℕ, ◌+◌, ◌*◌, ◌/◌, ◌%◌, cond, List, [], ◌∷◌, ◌++◌, take, drop, get_or, ltb}
use Rattle.crc.specs.Crc.{with_crc}
use Rattle.frame.specs.Frame.{short, standard}
use Rattle.uid.specs.declared.Level.{Level}
use Rattle.uid.specs.declared.Level.TheVariants.{One, Two, Three}
use Rattle.uid.specs.declared.UidSize.{UidSize}
use Rattle.uid.specs.declared.UidSize.TheVariants.{Single, Double, Triple}

-- "SEL (93, 95, 97 for levels 1, 2, 3)"
abbrev pub sel : Level → ℕ
sel One = 0x93
sel Two = 0x95
sel Three = 0x97

-- "High half of NVB: whole bytes sent, SEL and NVB included; low half: bits left over"
abbrev pub nvb : ℕ → ℕ
nvb k = 16 * (2 + k / 8) + k % 8

-- how many air bits the first k data bits are: a parity bit stands behind each whole byte
abbrev pub cut : ℕ → ℕ
cut k = k + k / 8

-- "REQA is 26, WUPA is 52"
unfoldable pub reqa : List ℕ
reqa = short 0x26

unfoldable pub wupa : List ℕ
wupa = short 0x52

-- "HLTA: 50 00 and CRC_A"
unfoldable pub hlta : List ℕ
hlta = standard (with_crc (0x50 ∷ 0x00 ∷ []))

-- "ANTICOLLISION: SEL .., NVB, then k bits of that level's five bytes"
unfoldable pub anticollision : Level → ℕ → List ℕ → List ℕ
anticollision l k five = standard (sel l ∷ nvb k ∷ []) ++ take (cut k) (standard five)

-- "The answer is the other 40-k bits"
unfoldable pub others : ℕ → List ℕ → List ℕ
others k five = drop (cut k) (standard five)

-- "SELECT: SEL, 70, the five bytes, CRC_A"
unfoldable pub select : Level → List ℕ → List ℕ
select l five = standard (with_crc (sel l ∷ 0x70 ∷ five))

-- "The answer is SAK and CRC_A"
unfoldable pub sak_frame : ℕ → List ℕ
sak_frame s = standard (with_crc (s ∷ []))

-- "ATQA 04 00, 44 00 or 84 00 for 4, 7, 10 bytes, first byte first"
abbrev pub atqa_byte : UidSize → ℕ
atqa_byte Single = 0x04
atqa_byte Double = 0x44
atqa_byte Triple = 0x84

unfoldable pub atqa : UidSize → List ℕ
atqa z = standard (atqa_byte z ∷ 0x00 ∷ [])

-- "RATS: E0, then FSDI in the high half and CID 0, CRC_A"
unfoldable pub rats : ℕ → List ℕ
rats fsdi = standard (with_crc (0xE0 ∷ 16 * fsdi ∷ []))

-- "Our card's ATS is 02, then FSCI, CRC_A"
unfoldable pub ats : ℕ → List ℕ
ats fsci = standard (with_crc (0x02 ∷ fsci ∷ []))

-- "9 to 15 read as 8 (house rule)", and so does every larger index
abbrev pub at_most8 : ℕ → ℕ
at_most8 i = cond (ltb 8 i) 8 i

-- "Sizes for index 0 to 8: 16, 24, 32, 40, 48, 64, 96, 128, 256"
unfoldable pub size : ℕ → ℕ
size i = get_or (16 ∷ 24 ∷ 32 ∷ 40 ∷ 48 ∷ 64 ∷ 96 ∷ 128 ∷ []) i 256
