-- T-11, of the call that runs (the statement on the rules is in RowLost.antt, its proof in RowLostLaws.antt).
use Rattle.std.specs.Prelude.{◌≡◌, ℕ, ◌≤◌, true, false, List, length}
use Rattle.rows.specs.Rows.{overlay}
use Rattle.limits.specs.Limits.{row_room}
use Rattle.block.specs.declared.Told.TheVariants.{Message}
use Rattle.card_link.specs.declared.LinkCard.{LinkCard}
use Rattle.reader_link.specs.declared.LinkReader.{LinkReader}
use Rattle.exchange.specs.declared.Outcome.{Outcome}
use Rattle.exchange.specs.RowExchange.{RowBetween}
use Rattle.exchange.specs.Lossy.{RowRound, lossy_talk}
use Rattle.exchange.specs.Steps.{ends_of}
use Rattle.lost_blocks.specs.Lost.{Ending}
use Rattle.lost_blocks.specs.RowLost.{RowFewLosses, LostBlocks}

-- the card's host got the message m, once and whole, and the reader's host the answer a; the buffers are untouched behind them; both ends are
-- ready for the next message, with this answer lent to the card
pub record Brings (i j : ℕ) (m before a down up : List ℕ) (o : Outcome) (down' up' : List ℕ) : Type 0 where
  pub once : o.messages ≡ 1
  pub whole : o.last ≡ length m
  pub down_is : down' ≡ overlay down 0 m
  pub told : o.told ≡ Message (length a)
  pub up_is : up' ≡ overlay up 0 a
  pub ready : RowBetween i j (ends_of o.reader o.card down' up' true before a)

-- what o is where the terms hold, and the card's and the reader's message buffers afterwards
pub record Survives (i j : ℕ) (x : LinkReader) (y : LinkCard) (m before a : List ℕ) (xs : List RowRound) (down up : List ℕ) (o : Outcome) (down' up' : List ℕ) : Type 0 where
  -- both claims, of the run of the rules: also that the message which the card's host got is m
  pub run : LostBlocks i j m a row_room xs (ends_of x y down up false before a) (lossy_talk m a row_room xs (ends_of x y down up false before a))
  -- "the host behind the card gets the command at most once, and whole"
  pub once : o.messages ≤ 1
  pub whole : o.messages ≡ 1 → o.last ≡ length m
  -- "and a reader that ends has that answer, or 12, 10 or 9"
  pub end : Ending (Brings i j m before a down up o down' up') o.told
  -- "it ends with the answer whenever at most two frames .. are lost or damaged"
  pub brought : RowFewLosses i j m a row_room xs (ends_of x y down up false before a) → Brings i j m before a down up o down' up'
