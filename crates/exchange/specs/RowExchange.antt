-- Demand 2 on rows: the whole reader and the whole card joined by their calls over a channel without errors. One message of the reader's
-- host and the answer of the card's host, who gives it as soon as it is owed.
use Rattle.std.specs.Prelude.{ℕ, zero, suc, ◌+◌, ◌≤◌, Bool, false, cond, ◌≡◌, List, [], ◌∷◌, ◌++◌, map, length}
use Rattle.rows.specs.Rows.{overlay}
use Rattle.card.specs.declared.CardState.TheVariants.{Protocol}
use Rattle.reader.specs.declared.Answer.{Answer}
use Rattle.reader.specs.declared.Answer.TheVariants.{Sends, Finds, Selects, Finishes, Declines}
use Rattle.block.specs.declared.Told.{Told}
use Rattle.block.specs.declared.Told.TheVariants.{Quiet, Message, Refused}
use Rattle.limits.specs.Limits.{message_max}
use Rattle.block.specs.Cut.{fewest, cut, last_number}
use Rattle.block.specs.Out.{Out}
use Rattle.block.specs.Row.{block_row}
use Rattle.card_link.specs.declared.LinkCard.{LinkCard}
use Rattle.card_link.specs.CardCalls.{owing, take_call, reply_call}
use Rattle.reader_link.specs.declared.LinkReader.{LinkReader}
use Rattle.reader_link.specs.declared.Link.{Link}
use Rattle.reader_link.specs.declared.Link.TheVariants.{NoLink, RatsSent, Linked}
use Rattle.reader_link.specs.declared.LinkAnswer.{LinkAnswer}
use Rattle.reader_link.specs.declared.LinkAnswer.TheVariants.{Selection, Opens, Blocks}
use Rattle.reader_link.specs.ReaderCalls.{Called, hear_call, send_call}
use Rattle.exchange.specs.Exchange.{Ends, delivered, is_quiet, i_blocks, Between}

-- both ends, their message buffers (down is the card's, up the reader's), and the answer that the card's host lends
pub record RowEnds : Type 0 where
  pub reader : LinkReader
  pub card : LinkCard
  pub down : List ℕ
  pub up : List ℕ
  pub lent : List ℕ

-- what a reader's host is told of its messages: nothing of a selection that goes on
abbrev pub told_of : Answer → Told
told_of (Declines e) = Refused e
told_of (Sends n) = Quiet
told_of (Finds n) = Quiet
told_of Selects = Quiet
told_of Finishes = Quiet

abbrev pub told_by : LinkAnswer → Told
told_by (Blocks n t) = t
told_by (Selection a) = told_of a
told_by (Opens i) = Quiet

-- after a round: the messages that the card's host got in it, the card's row, the ends, what the reader's host is told, its next row
pub record RowPassed : Type 0 where
  pub got : List (List ℕ)
  pub reply : List ℕ
  pub ends : RowEnds
  pub told : Told
  pub next : List ℕ

-- a round: the card takes the row f, its host answers if it is owed, the reader hears the card's row. Each end has room bits for its rows
unfoldable pub row_passes : List ℕ → List ℕ → ℕ → RowEnds → List ℕ → RowPassed
row_passes m a room e f =
    let c : Out LinkCard = take_call e.card f e.lent e.down room in
    let h : Out LinkCard × List ℕ = cond (owing c.link) (reply_call c.link a room, a) (c, e.lent) in
    let r : Called = hear_call e.reader h.0.sent m e.up room in
    record {
      got = delivered c.told c.buffer;
      reply = h.0.sent;
      told = told_by r.turn.answer;
      next = r.sent;
      ends = record { reader = r.turn.reader; card = h.0.link; down = c.buffer; up = r.buffer; lent = h.1 };
    }

-- a run: the messages that the card's host got, the rows each way, what the reader's host is told at last (Quiet if it has not ended)
pub record RowRun : Type 0 where
  pub got : List (List ℕ)
  pub downs : List (List ℕ)
  pub ups : List (List ℕ)
  pub told : Told
  pub ends : RowEnds

abbrev pub row_over : Told → RowEnds → RowRun
row_over t e = record { got = []; downs = []; ups = []; told = t; ends = e }

abbrev pub row_after : List ℕ → RowPassed → RowRun → RowRun
row_after f p r = record { got = p.got ++ r.got; downs = f ∷ r.downs; ups = p.reply ∷ r.ups; told = r.told; ends = r.ends }

-- the run from here on, of at most so many rounds: the reader's host was told t and the reader's row f is out
unfoldable pub row_exchange : List ℕ → List ℕ → ℕ → ℕ → RowEnds → Told → List ℕ → RowRun
row_exchange m a room zero e t f = row_over t e
row_exchange m a room (suc g) e t f =
    let p : RowPassed = row_passes m a room e f in
    let r : RowRun = row_exchange m a room g p.ends p.told p.next in
    cond (is_quiet t) (row_after f p r) (row_over t e)

-- the reader's host hands in the message m, whose answer is a
unfoldable pub row_talk : List ℕ → List ℕ → ℕ → ℕ → RowEnds → RowRun
row_talk m a room g e =
    let s : Called = send_call e.reader m room in
    row_exchange m a room g (record { reader = s.turn.reader; card = e.card; down = e.down; up = e.up; lent = e.lent }) (told_by s.turn.answer) s.sent

-- between messages: the card is in Protocol, the reader linked, and the links are as after a message
pub record RowBetween (i j : ℕ) (e : RowEnds) : Type 0 where
  pub links : Ends
  pub reader : e.reader.link ≡ Linked links.reader
  pub card : e.card.link ≡ links.card
  pub index : ℕ
  pub protocol : e.card.card.state ≡ Protocol index
  pub between : Between i j links

-- a linked reader's block number
abbrev pub number_in : Link → Bool
number_in (Linked l) = l.number
number_in NoLink = false
number_in (RatsSent i) = false

-- the terms of demand 2: both ends between messages, message and answer of up to 4,096 bytes, buffers that hold them, rounds enough
pub record Terms (i j : ℕ) (m a : List ℕ) (rounds : ℕ) (e : RowEnds) : Type 0 where
  pub ends : RowBetween i j e
  pub message : length m ≤ message_max
  pub answer : length a ≤ message_max
  pub down : length m ≤ length e.down
  pub up : length a ≤ length e.up
  pub enough : fewest j (length m) + fewest i (length a) ≤ suc rounds

-- what comes of it, from e to the end of the run r: each host has the other's message, once and whole, the buffers are untouched behind
-- it, each message went in just the blocks into which it is cut, the fewest, and both ends are ready for the next message
pub record RowExchanged (i j : ℕ) (m a : List ℕ) (e : RowEnds) (r : RowRun) : Type 0 where
  pub got : r.got ≡ m ∷ []
  pub told : r.told ≡ Message (length a)
  pub down : r.ends.down ≡ overlay e.down 0 m
  pub up : r.ends.up ≡ overlay e.up 0 a
  -- the bytes of the frames, without CRC_A; the I blocks among them
  pub down_bytes : List (List ℕ)
  pub up_bytes : List (List ℕ)
  pub downs : r.downs ≡ map block_row down_bytes
  pub ups : r.ups ≡ map block_row up_bytes
  pub down_blocks : i_blocks down_bytes ≡ cut j (number_in e.reader.link) m
  pub up_blocks : i_blocks up_bytes ≡ cut i (last_number j (number_in e.reader.link) m) a
  pub ready : RowBetween i j r.ends
  pub lent : r.ends.lent ≡ a
  pub same_reader_law : r.ends.reader.reader ≡ e.reader.reader
  pub same_card : r.ends.card.card ≡ e.card.card
