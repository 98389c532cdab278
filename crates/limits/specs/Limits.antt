-- The core's limits, each once. src/lib.rt has the same numbers for the code.
use Rattle.std.specs.Prelude.{ℕ, ◌+◌, ◌-◌, ◌*◌, ◌/◌}

-- more cards are 6; T-06: "The limit of 16 becomes 32"
abbrev pub most_cards : ℕ
most_cards = 32

-- T-09: "The log room rises to 40,960 bytes"; T-06: "the list 352", an entry of it has 11 bytes
abbrev pub log_room : ℕ
log_room = 40960

abbrev pub list_room : ℕ
list_room = 11 * most_cards

-- no sweep over n cards sends more frames: "1 plus the sum over the cards of (2 + 2L + d)", L at most 3 and d at most the number of later cards
abbrev pub frames_bound : ℕ → ℕ
frames_bound n = 1 + 8 * n + n * (n - 1) / 2

abbrev pub most_frames : ℕ
most_frames = frames_bound most_cards

-- "A standard frame is 1 to 256 bytes, each followed by odd parity"
abbrev pub most_bytes : ℕ
most_bytes = 256

abbrev pub row_room : ℕ
row_room = 9 * most_bytes

-- the longest frame of a selection is SELECT, the longest answer to one a level's five bytes
abbrev pub frame_room : ℕ
frame_room = 81

abbrev pub answer_room : ℕ
answer_room = 45

-- "A message has 0 to 4,096 bytes"
abbrev pub message_max : ℕ
message_max = 4096
