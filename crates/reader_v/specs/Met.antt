-- Document 02, T-10: the slots of a sweep in which two tags met and whose rounds are not taken yet. A flag for each slot of each depth of the mask, 0 to 56
-- bits: the deepest first, and of one depth in rising order. So the first flag that is set names the next round: "a round is finished, then its met slots
-- are taken in rising order, each to its end".
use Rattle.std.specs.Prelude.{ℕ, suc, ◌+◌, ◌-◌, ◌*◌, ◌/◌, ◌%◌, cond, List, [], ◌∷◌, eqb}

-- fifteen depths of sixteen slots
abbrev pub flags : ℕ
flags = 240

-- the flag of a slot in a round whose mask has len bits
abbrev pub flag_of : ℕ → ℕ → ℕ
flag_of len slot = 16 * (14 - len / 4) + slot

-- the mask of the round in which flag i was set has so many bits, and so is the slot
abbrev pub length_of : ℕ → ℕ
length_of i = 4 * (14 - i / 16)

abbrev pub slot_of : ℕ → ℕ
slot_of i = i % 16

-- the first flag that is set; as many as there are, where none is
unfoldable pub first_met : List ℕ → ℕ
first_met [] = 0
first_met (x ∷ m) = cond (eqb x 0) (suc (first_met m)) 0
