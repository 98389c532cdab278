-- Document 02, T-05: what Type B's calls ask for and how many slots a request has. src/lib.rt has the same numbers for the code. How many cards
-- a field holds is no number of Type B's: it is the limit of crate limits.
use Rattle.std.specs.Prelude.{ℕ, ◌*◌}

-- "slot numbers, 1 to N, N in 1, 2, 4, 8, 16"
abbrev pub most_slots : ℕ
most_slots = 16

-- "The list (208 bytes asked) has 13 a slot"
abbrev pub list_room_b : ℕ
list_room_b = 13 * most_slots

-- the longest frame of the reader is ATTRIB, 11 bytes, the longest answer of a card ATQB, 14 bytes; "Rows hold data bits only"
abbrev pub frame_room_b : ℕ
frame_room_b = 8 * 11

abbrev pub answer_room_b : ℕ
answer_room_b = 8 * 14
