-- Demand 2, of the call that runs (the statement on the rules is in RowExchange.antt and RowExchangeLaws.antt).
use Rattle.std.specs.Prelude.{◌≡◌, ℕ, true, false, List, length}
use Rattle.rows.specs.Rows.{overlay}
use Rattle.block.specs.declared.Told.TheVariants.{Message}
use Rattle.card_link.specs.declared.LinkCard.{LinkCard}
use Rattle.limits.specs.Limits.{row_room}
use Rattle.reader_link.specs.declared.LinkReader.{LinkReader}
use Rattle.exchange.specs.declared.Outcome.{Outcome}
use Rattle.exchange.specs.RowExchange.{row_talk, RowBetween, RowExchanged}
use Rattle.exchange.specs.Steps.{ends_of}

-- what o is where the terms hold, and the card's and the reader's message buffers afterwards
pub record Exchanges (i j : ℕ) (x : LinkReader) (y : LinkCard) (m before a : List ℕ) (rounds : ℕ) (down up : List ℕ) (o : Outcome) (down' up' : List ℕ) : Type 0 where
  -- the card's host got the message, once and whole; the buffer is untouched behind it
  pub once : o.messages ≡ 1
  pub whole : o.last ≡ length m
  pub down_is : down' ≡ overlay down 0 m
  -- the reader's host got the answer
  pub told : o.told ≡ Message (length a)
  pub up_is : up' ≡ overlay up 0 a
  -- both ends are ready for the next message, with this answer lent to the card
  pub ready : RowBetween i j (ends_of o.reader o.card down' up' true before a)
  -- the frames are those of the rules' run, and as few as can be
  pub run : RowExchanged i j m a (ends_of x y down up false before a) (row_talk m a row_room rounds (ends_of x y down up false before a))
  pub rounds_are : o.rounds ≡ length (row_talk m a row_room rounds (ends_of x y down up false before a)).downs
