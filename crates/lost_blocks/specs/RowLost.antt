-- Document 02, T-11, on rows: the whole reader and the whole card joined by their calls (`lossy_talk` of crate exchange), "where any block either
-- way may be lost or damaged, damage always being noticed by parity or CRC_A, and nothing invented".
use Rattle.std.specs.Prelude.{ℕ, suc, ◌+◌, ◌*◌, ◌≤◌, ◌≡◌, Bool, true, false, cond, ◌||◌, List, [], ◌∷◌, length, replicate, eqb}
use Rattle.rows.specs.Rows.{overlay, is_nil, All}
use Rattle.refusal.specs.Refusal.{number_of}
use Rattle.frame.specs.Frame.{Verdict, Good, Fault}
use Rattle.block.specs.declared.Told.{Told}
use Rattle.block.specs.declared.Told.TheVariants.{Message}
use Rattle.limits.specs.Limits.{message_max}
use Rattle.block.specs.Cut.{fewest}
use Rattle.block.specs.Row.{heard_row}
use Rattle.reader_link.specs.declared.Link.{Link}
use Rattle.reader_link.specs.ReaderCalls.{Called, send_call}
use Rattle.exchange.specs.Exchange.{Answers, is_quiet}
use Rattle.exchange.specs.RowExchange.{RowEnds, told_by, RowPassed, RowRun, RowBetween, number_in}
use Rattle.exchange.specs.Lossy.{Passage, Whole, Instead, RowRound, lossy_passes, row_handed}
use Rattle.lost_blocks.specs.Lost.{Ending, Mark, few_lost, lost_all}

-- "lost or damaged, damage always being noticed": what is heard instead of a frame is silence, 7, or a row that 2, 8, 3 or 4 catches
abbrev pub caught : Verdict → Bool
caught (Good l) = false
caught (Fault e) = eqb (number_of e) 7 || eqb (number_of e) 2 || eqb (number_of e) 8 || eqb (number_of e) 3 || eqb (number_of e) 4

-- .. at an end of size index i. "nothing invented": a frame that is not heard whole is heard as nothing else
abbrev pub noticed : ℕ → Passage → Bool
noticed i Whole = true
noticed i (Instead h) = caught (heard_row i h)

-- reader of size index i, card of size index j
abbrev pub Noticed : ℕ → ℕ → List RowRound → Type 0
Noticed i j xs = All (λ x. (noticed j x.down ≡ true) × (noticed i x.up ≡ true)) xs

-- ---- first claim

-- its terms: both ends between messages, that is after RATS and ATS or after a message; the command m and the answer a of up to 4,096 bytes;
-- damage that is noticed
pub record RowStart (i j : ℕ) (m a : List ℕ) (xs : List RowRound) (e : RowEnds) : Type 0 where
  pub ends : RowBetween i j e
  pub message : length m ≤ message_max
  pub answer : length a ≤ message_max
  pub damage : Noticed i j xs

-- the run r from e brings the command m, once and whole, to the card's host and the answer a to the reader's, each into the buffer that was
-- lent for it, which is untouched behind it; both ends are ready for the next message
pub record RowBrought (i j : ℕ) (m a : List ℕ) (e : RowEnds) (r : RowRun) : Type 0 where
  pub got : r.got ≡ m ∷ []
  pub told : r.told ≡ Message (length a)
  pub down : r.ends.down ≡ overlay e.down 0 m
  pub up : r.ends.up ≡ overlay e.up 0 a
  pub lent : r.ends.lent ≡ a
  pub ready : RowBetween i j r.ends

-- Of the command m and the answer a, from e to the end of the run r, whatever is lost and whatever the card's host does: WTX, a late host and
-- buffers of any size included. It holds of every list of rounds, and so at every moment
pub record RowSafe (i j : ℕ) (m a : List ℕ) (e : RowEnds) (r : RowRun) : Type 0 where
  -- "the host behind the card gets the command at most once, and whole": what it got is nothing, or just the command
  pub times : ℕ
  pub once : times ≤ 1
  pub got : r.got ≡ replicate times m
  -- "and a reader that ends has that answer, or 12, 10 or 9"
  pub end : Ending (RowBrought i j m a e r) r.told

-- ---- the terms of the second claim

abbrev pub spoilt : Passage → ℕ
spoilt Whole = 0
spoilt (Instead h) = 1

-- the card's frame counts only where it sends one
abbrev pub row_mark : RowRound → Link → RowPassed → Mark
row_mark x l p = record { number = number_in l; lost = spoilt x.down + cond (is_nil p.reply) 0 (spoilt x.up) }

-- the rounds that the run comes to (see `lossy_exchange`)
unfoldable pub row_marks : List ℕ → List ℕ → ℕ → List RowRound → RowEnds → Told → List ℕ → List Mark
row_marks m a room [] e t f = []
row_marks m a room (x ∷ xs) e t f =
    let p : RowPassed = lossy_passes m a room x e f in
    cond (is_quiet t) (row_mark x e.reader.link p ∷ row_marks m a room xs p.ends p.told p.next) []

-- .. of the whole (see `lossy_talk`)
unfoldable pub row_marks_of : List ℕ → List ℕ → ℕ → List RowRound → RowEnds → List Mark
row_marks_of m a room xs e =
    let s : Called = send_call e.reader m room in
    row_marks m a room xs (row_handed e s) (told_by s.turn.answer) s.sent

-- Second claim: it ends with the answer (`RowBrought`) where
pub record RowFewLosses (i j : ℕ) (m a : List ℕ) (room : ℕ) (xs : List RowRound) (e : RowEnds) : Type 0 where
  -- "With no WTX, a card's host that answers before the reader's wait runs out"
  pub prompt : All (λ x. x.host ≡ Answers) xs
  -- "and buffers that hold both messages"
  pub down : length m ≤ length e.down
  pub up : length a ≤ length e.up
  -- "at most two frames, both ways counted together, are lost or damaged between the start or a toggle of the reader's block number and the next"
  pub few : few_lost (row_marks_of m a room xs e) ≡ true
  -- and there are rounds enough for the run to end: those of demand 2, and two for each frame that is lost
  pub enough : fewest j (length m) + fewest i (length a) + 2 * lost_all (row_marks_of m a room xs e) ≤ suc (length xs)

-- T-11: both claims, of the run r over the rounds xs
pub record LostBlocks (i j : ℕ) (m a : List ℕ) (room : ℕ) (xs : List RowRound) (e : RowEnds) (r : RowRun) : Type 0 where
  pub safe : RowSafe i j m a e r
  pub brought : RowFewLosses i j m a room xs e → RowBrought i j m a e r
