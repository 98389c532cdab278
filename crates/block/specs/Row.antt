-- Document 01, "Frames on the air" and "When the core declines": a block on the air, and what an end makes of a received row. The block
-- protocol is defined on bytes and verdicts; these two join it to rows.
use Rattle.std.specs.Prelude.{ℕ, Bool, cond, not, ltb, List, [], ◌∷◌, Result, Ok, Err}
use Rattle.limits.specs.Limits.{row_room}
use Rattle.rows.specs.Rows.{is_nil}
use Rattle.crc.specs.Crc.{with_crc}
use Rattle.frame.specs.Frame.{standard, Verdict, Fault, read_crc}
use Rattle.selection.specs.Selection.{size}
use Rattle.refusal.specs.declared.Refusal.{Refusal}
use Rattle.refusal.specs.declared.Refusal.TheVariants.{Silence, Room, NotDue}

-- the row of a block's bytes, "CRC_A ends each"; no bytes are silence
abbrev pub block_row : List ℕ → List ℕ
block_row [] = []
block_row (f ∷ p) = standard (with_crc (f ∷ p))

-- what an end of size index i makes of a row, "tested 7, 2, 8, 3, 4"; 2 is "not whole bytes with parity, under 3 bytes, or over" its size
unfoldable pub heard_row : ℕ → List ℕ → Verdict
heard_row i h = cond (is_nil h) (Fault Silence) (read_crc 3 (size i) h)

-- what each call of a whole end that writes a row says ahead of its rules: 11 where it is not due, then 1 where the lent row has no room for the
-- longest frame
abbrev pub tested : Bool → ℕ → Result Unit Refusal
tested due room = cond (not due) (Err NotDue) (cond (ltb room row_room) (Err Room) (Ok tt))
