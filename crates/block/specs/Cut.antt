-- Document 01, "RATS, ATS and blocks": how a message is cut into payloads, and how payloads are joined. By numbers and by bytes.
use Rattle.std.specs.Prelude.{ℕ, zero, suc, ◌+◌, ◌-◌, ◌/◌, max, min, Bool, not, List, [], ◌∷◌, length, take, drop, leb, ltb}
use Rattle.limits.specs.Limits.{message_max}
use Rattle.selection.specs.Selection.{size}
use Rattle.block.specs.declared.Block.TheVariants.{I}
use Rattle.block.specs.Block.{block_bytes}

-- "Payload is at most size - 3": so much goes to a receiver of size index i
unfoldable pub payload_max : ℕ → ℕ
payload_max i = size i - 3

-- A message of len bytes goes to a receiver of size index i. More follows the I that begins at place at:
unfoldable pub follows : ℕ → ℕ → ℕ → Bool
follows i at len = ltb (at + payload_max i) len

-- .. its payload: "each but the last full"
unfoldable pub part : ℕ → ℕ → List ℕ → List ℕ
part i at m = take (payload_max i) (drop at m)

-- .. how many bytes that is
unfoldable pub part_bytes : ℕ → ℕ → ℕ → ℕ
part_bytes i at len = min (payload_max i) (len - at)

-- .. and how many blocks there are: "in the fewest blocks ..; the empty one is one empty block"
unfoldable pub fewest : ℕ → ℕ → ℕ
fewest i len = max 1 ((len + (payload_max i - 1)) / payload_max i)

-- n bytes fit a buffer of room bytes: not "over 4,096 bytes or over the buffer"
unfoldable pub fits : ℕ → ℕ → Bool
fits n room = leb n (min message_max room)

-- The I blocks in which the message m goes out: k of them, from place at on, the first with number n. The numbers toggle
unfoldable pub cut_from : ℕ → ℕ → Bool → ℕ → List ℕ → List (List ℕ)
cut_from zero i n at m = []
cut_from (suc k) i n at m = block_bytes (I n (follows i at (length m))) (part i at m) ∷ cut_from k i (not n) (at + payload_max i) m

-- .. the whole message
unfoldable pub cut : ℕ → Bool → List ℕ → List (List ℕ)
cut i n m = cut_from (fewest i (length m)) i n 0 m

-- a number toggled so many times
unfoldable pub toggled : ℕ → Bool → Bool
toggled zero n = n
toggled (suc k) n = toggled k (not n)

-- the number of the last of those blocks
unfoldable pub last_number : ℕ → Bool → List ℕ → Bool
last_number i n m = toggled (fewest i (length m) - 1) n
