-- The calls that write a frame into a lent row, and that read a received row into lent bytes: what they answer, in the numbers of document
-- 01's table, and what the lent memory holds afterwards.
use Rattle.std.specs.Prelude.{ℕ, ◌+◌, ◌*◌, cond, not, List, [], ◌∷◌, length, eqb, ltb, Result, Ok, Err}
use Rattle.limits.specs.Limits.{most_bytes}
use Rattle.rows.specs.Rows.{overlay, clean}
use Rattle.parity.specs.Bits.{unbits}
use Rattle.refusal.specs.Refusal.{Said, giving, refusal_says, decline_if}
use Rattle.frame.specs.Frame.{Verdict, Good, Fault}
use Rattle.refusal.specs.declared.Refusal.TheVariants.{Room}
use Rattle.refusal.specs.declared.Refusal.{Refusal}

-- ---- writing

-- Writing n bytes and so many more of CRC_A, each with its parity: 1 where the row has no room for them. A row of 0 or of over 256 bytes is
-- written like any other and is no frame: whoever reads it gives 2.
abbrev pub write_says : ℕ → ℕ → ℕ → Said
write_says more room n = decline_if (ltb room (9 * (n + more))) 1 (giving (9 * (n + more) ∷ []))

-- writing a short frame
abbrev pub write_short_says : ℕ → Said
write_short_says room = decline_if (ltb room 7) 1 (giving (7 ∷ []))

-- the lent row afterwards: the frame at its front, or unchanged
abbrev pub row_after : Result ℕ Refusal → List ℕ → List ℕ → List ℕ
row_after (Ok n) frame out = overlay out 0 frame
row_after (Err e) frame out = out

-- ---- reading

-- what is made of a row: how many bytes it has, or why none are read
abbrev pub verdict_says : Verdict → Said
verdict_says (Good l) = giving (length l ∷ [])
verdict_says (Fault e) = refusal_says e

-- Reading asks for room for the longest frame, whatever is heard.
abbrev pub read_says : ℕ → Verdict → Said
read_says room v = decline_if (ltb room most_bytes) 1 (verdict_says v)

-- the same as a value, for the calls of our own crates
abbrev pub received : Verdict → Result ℕ Refusal
received (Good l) = Ok (length l)
received (Fault e) = Err e

unfoldable pub read_answer : ℕ → Verdict → Result ℕ Refusal
read_answer room v = cond (ltb room most_bytes) (Err Room) (received v)

abbrev pub good_bytes : Verdict → List ℕ
good_bytes (Good l) = l
good_bytes (Fault e) = []

-- the lent bytes afterwards
abbrev pub bytes_after : Result ℕ Refusal → Verdict → List ℕ → List ℕ
bytes_after (Ok n) v out = overlay out 0 (good_bytes v)
bytes_after (Err e) v out = out

-- a received row as a short frame, tested 2, 8
unfoldable pub read_short : List ℕ → Said
read_short h =
    decline_if (not (eqb (length h) 7)) 2
    (decline_if (not (clean h)) 8
    (giving (unbits h ∷ [])))
