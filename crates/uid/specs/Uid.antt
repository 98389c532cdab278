-- Document 01, "UIDs and their levels" and "Frames of a sweep".
use Rattle.std.specs.Prelude.{ℕ, ◌+◌, ◌-◌, ◌*◌, Bool, true, not, List, [], ◌∷◌, ◌++◌, map, take, drop, get_or, length, replicate, eqb}
use Rattle.std.specs.Int.Bits.{bit_xor}
use Rattle.frame.specs.Frame.{air_bits}
use Rattle.uid.specs.Order.{parts, sort_on}
use Rattle.uid.specs.declared.Uid.{Uid}
use Rattle.uid.specs.declared.UidSize.{UidSize}
use Rattle.uid.specs.declared.UidSize.TheVariants.{Single, Double, Triple}
use Rattle.uid.specs.declared.Level.{Level}
use Rattle.uid.specs.declared.Level.TheVariants.{One, Two, Three}

-- how many levels a UID of this size has
abbrev pub level_count : UidSize → ℕ
level_count Single = 1
level_count Double = 2
level_count Triple = 3

-- "A UID has 4, 7 or 10 bytes"
abbrev pub byte_count : UidSize → ℕ
byte_count Single = 4
byte_count Double = 7
byte_count Triple = 10

-- the levels before a level
abbrev pub place : Level → ℕ
place One = 0
place Two = 1
place Three = 2

-- a UID's own bytes
unfoldable pub uid_bytes : Uid → List ℕ
uid_bytes u = take (byte_count u.size) u.bytes

-- "B is the exclusive-or of its four bytes"
unfoldable pub check : List ℕ → ℕ
check [] = 0
check (b ∷ l) = bit_xor b (check l)

-- a level's five bytes, from its four
unfoldable pub level : List ℕ → List ℕ
level l = l ++ check l ∷ []

-- "4: [u0 u1 u2 u3 B]; 7: [88 u0 u1 u2 B] [u3 u4 u5 u6 B]; 10: [88 u0 u1 u2 B] [88 u3 u4 u5 B] [u6 u7 u8 u9 B]"
abbrev pub levels_of : UidSize → List ℕ → List (List ℕ)
levels_of Single u = level (take 4 u) ∷ []
levels_of Double u = level (0x88 ∷ take 3 u) ∷ level (take 4 (drop 3 u)) ∷ []
levels_of Triple u = level (0x88 ∷ take 3 u) ∷ level (0x88 ∷ take 3 (drop 3 u)) ∷ level (take 4 (drop 6 u)) ∷ []

unfoldable pub levels : Uid → List (List ℕ)
levels u = levels_of u.size u.bytes

-- "at most three rows of five bytes, handed over together": zeros where the UID has no level
unfoldable pub three_levels : Uid → List (List ℕ)
three_levels u = levels u ++ replicate (3 - length (levels u)) (replicate 5 0)

-- "u0 of a 4-byte UID is not 88, u3 of a 7-byte UID is not 88"; that the length is one of the three is said by the size's type
abbrev pub valid_of : UidSize → List ℕ → Bool
valid_of Single u = not (eqb (get_or u 0 0) 0x88)
valid_of Double u = not (eqb (get_or u 3 0) 0x88)
valid_of Triple u = true

unfoldable pub valid : Uid → Bool
valid u = valid_of u.size u.bytes

-- rows one behind the other
unfoldable pub air : List (List ℕ) → List ℕ
air [] = []
air (l ∷ ls) = l ++ air ls

-- "The on-air row of a UID is its levels in air order, parity left out"
unfoldable pub row_of : Uid → List ℕ
row_of u = air (map air_bits (levels u))

-- UIDs in falling order
unfoldable pub falling : List Uid → List Uid
falling us = sort_on row_of us

-- "1 plus the sum over the cards of (2 + 2L + d)", the UIDs in falling order: L the levels of a UID, d the number of distinct positions at
-- which its on-air row first differs from the row of some later one
unfoldable pub frame_sum : List Uid → ℕ
frame_sum [] = 1
frame_sum (u ∷ us) = 2 + 2 * length (levels u) + parts (row_of u) (map row_of us) + frame_sum us
