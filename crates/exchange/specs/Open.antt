-- RATS and ATS between a selected reader and an active card, by the calls of both ends: what an exchange starts from.
use Rattle.std.specs.Prelude.{ℕ, ◌≡◌, true, List}
use Rattle.card.specs.declared.CardState.TheVariants.{Active}
use Rattle.block.specs.Out.{Out}
use Rattle.card_link.specs.declared.LinkCard.{LinkCard}
use Rattle.card_link.specs.CardCalls.{take_call}
use Rattle.reader_link.specs.declared.LinkReader.{LinkReader}
use Rattle.reader_link.specs.declared.Link.TheVariants.{NoLink}
use Rattle.reader_link.specs.ReaderCalls.{Called, hear_call, rats_call, is_selected, b6}
use Rattle.exchange.specs.RowExchange.{RowEnds}

-- the reader has selected a card whose last SAK has b6 set; the card is active, speaks blocks and has size index j
pub record Chosen (j : ℕ) (x : LinkReader) (y : LinkCard) : Type 0 where
  pub has_no_link : x.link ≡ NoLink
  pub selected : is_selected x.reader.phase ≡ true
  pub speaks : b6 x.reader.sak ≡ true
  pub active : y.card.state ≡ Active
  pub blocks : y.card.blocks ≡ true
  pub index : y.card.index ≡ j

-- RATS goes out with the reader's size index i, the card takes it, the reader hears what the card sends. The reader's host lends m, the card's
-- host lends a message, down and up are the buffers of the card and of the reader, and each end has room bits for its rows
unfoldable pub after_rats : ℕ → ℕ → LinkReader → LinkCard → List ℕ → List ℕ → List ℕ → List ℕ → RowEnds
after_rats i room x y m lent down up =
    let s : Called = rats_call x i room in
    let c : Out LinkCard = take_call y s.sent lent down room in
    let r : Called = hear_call s.turn.reader c.sent m up room in
    record { reader = r.turn.reader; card = c.link; down = c.buffer; up = r.buffer; lent = lent }
