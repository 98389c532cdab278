-- Document 01, "The log (house format, fields most significant bit first)": the bytes of its records, and of the found list.
use Rattle.std.specs.Prelude.{ℕ, zero, suc, ◌+◌, ◌*◌, ◌/◌, ◌%◌, ◌^◌, cond, List, [], ◌∷◌, ◌++◌, map, length, take, drop, ltb}
use Rattle.rows.specs.Rows.{clean, fill}

-- the number of a row of at most n bits, the first in the top bit
unfoldable pub from_top : ℕ → List ℕ → ℕ
from_top zero r = 0
from_top (suc n) [] = 0
from_top (suc n) (x ∷ r) = x * 2 ^ n + from_top n r

-- n bytes of a row, "first in the top bit, zero-filled to a byte"
unfoldable pub packed : ℕ → List ℕ → List ℕ
packed zero r = []
packed (suc n) r = from_top 8 (take 8 r) ∷ packed n (drop 8 r)

-- a whole row, at a new byte
abbrev pub pack : List ℕ → List ℕ
pack r = packed ((length r + 7) / 8) r

-- a record's first two bytes: "2 bits kind .., 1 zero bit, 13 bits giving the number of air bits"
unfoldable pub header : ℕ → ℕ → List ℕ
header kind n = (64 * kind + n / 256) ∷ n % 256 ∷ []

-- T-09: "a 32-bit carrier tick after its header", most significant byte first. "Ticks wrap": of a greater number the low 32 bits are written
unfoldable pub tick_bytes : ℕ → List ℕ
tick_bytes t = t / 16777216 % 256 ∷ t / 65536 % 256 ∷ t / 256 % 256 ∷ t % 256 ∷ []

-- a row with "0 at collided bits"; and "an equally long row with 1 at them"
unfoldable pub plain : List ℕ → List ℕ
plain r = map (λ x. cond (ltb 1 x) 0 x) r

unfoldable pub marks : List ℕ → List ℕ
marks r = map (λ x. cond (ltb 1 x) 1 0) r

-- A record is its header, a stamp and its rows. The stamp x is the bytes of its tick; in a log without ticks it is empty.
-- Kind 0: a reader frame
unfoldable pub sent_record : List ℕ → List ℕ → List ℕ
sent_record x f = header 0 (length f) ++ (x ++ pack f)

-- kinds 1, 2, 3: a clean answer, an answer with a collision, silence
unfoldable pub heard_record : List ℕ → List ℕ → List ℕ
heard_record x [] = header 3 0 ++ x
heard_record x (b ∷ h) =
    cond (clean (b ∷ h)) (header 1 (length (b ∷ h)) ++ (x ++ pack (b ∷ h)))
    (header 2 (length (b ∷ h)) ++ (x ++ (pack (plain (b ∷ h)) ++ pack (marks (b ∷ h)))))

-- "Every reader frame has one record after it for what was heard"
pub record Exchange : Type 0 where
  pub sent : List ℕ
  pub heard : List ℕ

abbrev pub sent_heard : List ℕ → List ℕ → Exchange
sent_heard f h = record { sent = f; heard = h }

-- T-09: "adds one tick a record": its first record has the tick t, its second the next
unfoldable pub exchange_bytes : ℕ → Exchange → List ℕ
exchange_bytes t e = sent_record (tick_bytes t) e.sent ++ heard_record (tick_bytes (t + 1)) e.heard

-- a log whose first record has the tick t
unfoldable pub log_bytes : ℕ → List Exchange → List ℕ
log_bytes t [] = []
log_bytes t (e ∷ l) = exchange_bytes t e ++ log_bytes (t + 2) l

-- how many bytes they are, whatever the tick
unfoldable pub exchange_size : Exchange → ℕ
exchange_size e = length (exchange_bytes 0 e)

unfoldable pub log_size : List Exchange → ℕ
log_size l = length (log_bytes 0 l)

-- "The found list has 11 bytes a UID: length, bytes, zero fill"
unfoldable pub entry_bytes : List ℕ → List ℕ
entry_bytes u = length u ∷ fill 10 u

unfoldable pub list_bytes : List (List ℕ) → List ℕ
list_bytes [] = []
list_bytes (u ∷ l) = entry_bytes u ++ list_bytes l
