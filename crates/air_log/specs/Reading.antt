-- Document 01, "The log": what stands at a place of a log. A record is whole, cut or malformed; cut goes ahead of malformed.
use Rattle.std.specs.Prelude.{ℕ, zero, suc, ◌+◌, ◌-◌, ◌*◌, ◌/◌, ◌%◌, Bool, true, false, cond, not, ◌&&◌, List, [], ◌∷◌, ◌++◌, length, take, drop, get_or, eqb, leb, ltb}
use Rattle.air_log.specs.Calls.{row_size}
use Rattle.air_log.specs.declared.Record.{Record}
use Rattle.air_log.specs.declared.Record.TheVariants.{Sent, Clean, Collided, Silence, End, Cut, Malformed}

-- ---- bits of bytes, "first in the top bit"

-- the n low bits of a number, the top one first
unfoldable pub top_bits : ℕ → ℕ → List ℕ
top_bits zero b = []
top_bits (suc n) b = top_bits n (b / 2) ++ b % 2 ∷ []

unfoldable pub unpacked : List ℕ → List ℕ
unpacked [] = []
unpacked (b ∷ l) = top_bits 8 b ++ unpacked l

-- the bits from a byte of a log on
abbrev pub bits_from : List ℕ → ℕ → List ℕ
bits_from l at = unpacked (drop at l)

-- the row of n bits that starts at a byte
abbrev pub row_at : List ℕ → ℕ → ℕ → List ℕ
row_at l at n = take n (bits_from l at)

-- what fills its last byte
abbrev pub fill_at : List ℕ → ℕ → ℕ → List ℕ
fill_at l at n = take (8 * row_size n - n) (drop n (bits_from l at))

-- ---- tests on rows

-- no bit is 1
unfoldable pub zeros : List ℕ → Bool
zeros [] = true
zeros (x ∷ r) = cond (eqb x 0) (zeros r) false

-- a bit is 1 where a mark is, though a collided bit is held as 0
abbrev pub clash : ℕ → ℕ → Bool
clash x y = not (eqb x 0) && not (eqb y 0)

-- no bit of a row is 1 where its mark is
unfoldable pub apart : List ℕ → List ℕ → Bool
apart [] m = true
apart (x ∷ r) [] = true
apart (x ∷ r) (y ∷ m) = cond (clash x y) false (apart r m)

-- a row has bits, and zeros fill its last byte
unfoldable pub good_row : List ℕ → ℕ → ℕ → Bool
good_row l at n = cond (eqb n 0) false (zeros (fill_at l at n))

-- behind it a row of marks, one of them at least, at bits held as 0, zeros behind
unfoldable pub good_marks : List ℕ → ℕ → ℕ → ℕ → Bool
good_marks l at marks n =
    cond (zeros (row_at l marks n)) false (cond (apart (row_at l at n) (row_at l marks n)) (zeros (fill_at l marks n)) false)

-- ---- records

-- the bytes that the rows of a record take: two rows where it has marks
abbrev pub rows_size : ℕ → ℕ → ℕ
rows_size kind n = cond (eqb kind 2) (2 * row_size n) (row_size n)

-- an answer with a collision, whose row and marks start at a byte
unfoldable pub collided_of : List ℕ → ℕ → ℕ → Record
collided_of l at n =
    cond (good_marks l at (at + row_size n) n) (Collided at (at + row_size n) n (at + 2 * row_size n)) Malformed

-- a record of a kind, with n bits, whose rows start at a byte
unfoldable pub record_of : List ℕ → ℕ → ℕ → ℕ → Record
record_of l at kind n =
    cond (eqb kind 3) (cond (eqb n 0) (Silence at) Malformed)
    (cond (good_row l at n)
    (cond (eqb kind 2) (collided_of l at n) (cond (eqb kind 1) (Clean at n (at + row_size n)) (Sent at n (at + row_size n))))
    Malformed)

-- a header's kind, its zero bit and its number of bits
abbrev pub kind_of : ℕ → ℕ
kind_of a = a / 64

abbrev pub zero_bit : ℕ → ℕ
zero_bit a = a / 32 % 2

abbrev pub bit_count : ℕ → ℕ → ℕ
bit_count a b = 256 * (a % 32) + b

-- what stands behind a header whose bytes are a and b
unfoldable pub after_header : List ℕ → ℕ → ℕ → ℕ → Record
after_header l at a b =
    cond (ltb (length l) (at + rows_size (kind_of a) (bit_count a b))) Cut
    (cond (eqb (zero_bit a) 1) Malformed (record_of l at (kind_of a) (bit_count a b)))

-- what stands at a place of a log whose records have stamps of w bytes: tick_size, or 0 in a log without ticks
unfoldable pub record_at : ℕ → List ℕ → ℕ → Record
record_at w l at =
    cond (leb (length l) at) End
    (cond (ltb (length l) (at + 2 + w)) Cut
    (after_header l (at + 2 + w) (get_or l at 0) (get_or l (at + 1) 0)))

-- the tick of the record at a place, from its four bytes; a byte past the log's end counts as 0
unfoldable pub tick_at : List ℕ → ℕ → ℕ
tick_at l at = 16777216 * get_or l (at + 2) 0 + 65536 * get_or l (at + 3) 0 + 256 * get_or l (at + 4) 0 + get_or l (at + 5) 0

-- ---- the reader records of a log

-- what follows a record, by the place behind it; nothing where the log ends or is no log
abbrev pub behind : (ℕ → ℕ) → Record → ℕ
behind rest (Sent start bits next) = suc (rest next)
behind rest (Clean start bits next) = rest next
behind rest (Collided start marks bits next) = rest next
behind rest (Silence next) = rest next
behind rest End = 0
behind rest Cut = 0
behind rest Malformed = 0

-- how many there are from a place on, in at most so many records
unfoldable pub sent_from : ℕ → ℕ → List ℕ → ℕ → ℕ
sent_from w zero l at = 0
sent_from w (suc most) l at = behind (sent_from w most l) (record_at w l at)

-- "the number of reader records in the log": no record is without a byte
unfoldable pub sent_in : ℕ → List ℕ → ℕ
sent_in w l = sent_from w (length l) l 0
