-- Both ends joined over a channel: one message of the reader's host and the answer of the card's host.
use Rattle.std.specs.Prelude.{ℕ, ◌<◌, ◌≡◌, Bool, true, false, cond, not, List, [], ◌∷◌, ◌++◌, length, take}
use Rattle.refusal.specs.declared.Refusal.{Refusal}
use Rattle.block.specs.declared.Block.{Block}
use Rattle.block.specs.declared.Block.TheVariants.{I, Ack, Nak, Deselect, Wtx, Unknown, Nothing}
use Rattle.block.specs.declared.Told.{Told}
use Rattle.block.specs.declared.Told.TheVariants.{Quiet, Message, Granted, Deselected, Refused}
use Rattle.card_blocks.specs.declared.CardPhase.TheVariants.{Receiving}
use Rattle.card_blocks.specs.declared.CardLink.{CardLink}
use Rattle.reader_blocks.specs.declared.ReaderLink.{ReaderLink}
use Rattle.rows.specs.Rows.{overlay}
use Rattle.frame.specs.Frame.{Verdict, Fault}
use Rattle.block.specs.Cut.{cut, last_number}
use Rattle.block.specs.Out.{Out}
use Rattle.block.specs.Block.{block_of, is_i, verdict}
use Rattle.card_blocks.specs.CardRules.{owes}
use Rattle.card_blocks.specs.CardFrames.{card_block, card_reply, card_wtx}
use Rattle.reader_blocks.specs.ReaderRules.{reader_open}
use Rattle.reader_blocks.specs.ReaderFrames.{reader_block, reader_send}

-- a frame on its way arrives, or fails one of the tests 7, 2, 8, 3, 4 where it is heard
pub data Fate : Type 0 where
  Arrives : Fate
  Fails : Refusal → Fate

-- what the card's host does when it owes an answer: it gives it, asks for WTX, or lets the reader wait
pub data Act : Type 0 where
  Answers : Act
  Asks : ℕ → Act
  Waits : Act

-- a reader's frame and what is heard after it
pub record Round : Type 0 where
  pub down : Fate
  pub host : Act
  pub up : Fate

-- no errors, and a host that answers at once
abbrev pub clean : Round
clean = record { down = Arrives; host = Answers; up = Arrives }

-- both ends, their message buffers (down is the card's, up the reader's), and the answer that the card's host lends
pub record Ends : Type 0 where
  pub reader : ReaderLink
  pub card : CardLink
  pub down : List ℕ
  pub up : List ℕ
  pub lent : List ℕ

abbrev pub carried : Fate → ℕ → List ℕ → Verdict
carried Arrives i bytes = verdict i bytes
carried (Fails e) i bytes = Fault e

-- the card's host, with the answer a: what the card does then, and the answer that is lent from now on
abbrev pub acts : Act → Out CardLink → List ℕ → List ℕ → Out CardLink × List ℕ
acts Answers o a lent = (card_reply o.link a o.buffer, a)
acts (Asks v) o a lent = (card_wtx o.link v o.buffer, lent)
acts Waits o a lent = (o, lent)

abbrev pub delivered : Told → List ℕ → List (List ℕ)
delivered (Message n) buffer = take n buffer ∷ []
delivered Quiet buffer = []
delivered Granted buffer = []
delivered Deselected buffer = []
delivered (Refused e) buffer = []

-- after a round: the messages that the card's host got in it, the card's frame, the ends, what the reader's host is told, its next frame
pub record Passed : Type 0 where
  pub got : List (List ℕ)
  pub reply : List ℕ
  pub ends : Ends
  pub told : Told
  pub next : List ℕ

-- a round: the card hears the frame f, its host acts if an answer is owed, the reader hears what the card sends
unfoldable pub passes : List ℕ → List ℕ → Round → Ends → List ℕ → Passed
passes m a x e f =
    let c : Out CardLink = card_block e.card (carried x.down e.card.own f) e.lent e.down in
    let h : Out CardLink × List ℕ = cond (owes c.link.phase) (acts x.host c a e.lent) (c, e.lent) in
    let r : Out ReaderLink = reader_block e.reader (carried x.up e.reader.own h.0.sent) m e.up in
    record {
      got = delivered c.told c.buffer;
      reply = h.0.sent;
      told = r.told;
      next = r.sent;
      ends = record { reader = r.link; card = h.0.link; down = h.0.buffer; up = r.buffer; lent = h.1 };
    }

-- a run: the messages that the card's host got, the frames each way, what the reader's host is told at last (Quiet if it has not ended)
pub record Run : Type 0 where
  pub got : List (List ℕ)
  pub downs : List (List ℕ)
  pub ups : List (List ℕ)
  pub told : Told
  pub ends : Ends

abbrev pub is_quiet : Told → Bool
is_quiet Quiet = true
is_quiet (Message n) = false
is_quiet Granted = false
is_quiet Deselected = false
is_quiet (Refused e) = false

abbrev pub over : Told → Ends → Run
over t e = record { got = []; downs = []; ups = []; told = t; ends = e }

abbrev pub after : List ℕ → Passed → Run → Run
after f p r = record { got = p.got ++ r.got; downs = f ∷ r.downs; ups = p.reply ∷ r.ups; told = r.told; ends = r.ends }

-- the run from here on: the reader's host was told t and the reader's frame f is out. It ends with the reader, or with the rounds
unfoldable pub exchange : List ℕ → List ℕ → List Round → Ends → Told → List ℕ → Run
exchange m a [] e t f = over t e
exchange m a (x ∷ xs) e t f =
    let p : Passed = passes m a x e f in
    let r : Run = exchange m a xs p.ends p.told p.next in
    cond (is_quiet t) (after f p r) (over t e)

-- the ends when the reader's host has handed in a message, and the reader has done s
abbrev pub handed : Ends → Out ReaderLink → Ends
handed e s = record { reader = s.link; card = e.card; down = e.down; up = s.buffer; lent = e.lent }

-- the reader's host hands in the message m, whose answer is a
unfoldable pub talk : List ℕ → List ℕ → List Round → Ends → Run
talk m a xs e = let s : Out ReaderLink = reader_send e.reader m e.up in exchange m a xs (handed e s) s.told s.sent

-- those of the frames that are I blocks
unfoldable pub i_blocks : List (List ℕ) → List (List ℕ)
i_blocks [] = []
i_blocks (f ∷ fs) = cond (is_i (block_of f)) (f ∷ i_blocks fs) (i_blocks fs)

-- a block that a card in Protocol may have sent last: DESELECT's answer leaves Protocol, and WTX has one byte
abbrev pub Fine : Block → Type 0
Fine (Wtx v) = v < 256
Fine Deselect = ⊥
Fine (I n chained) = Unit
Fine (Ack n) = Unit
Fine (Nak n) = Unit
Fine Unknown = Unit
Fine Nothing = Unit

-- between messages: the reader of size index i is open, the card of size index j listens, the numbers differ
pub record Between (i j : ℕ) (e : Ends) : Type 0 where
  pub reader : e.reader ≡ reader_open i j e.reader.number
  pub number : e.card.number ≡ not e.reader.number
  pub phase : e.card.phase ≡ Receiving
  pub joined : e.card.joined ≡ 0
  pub own : e.card.own ≡ j
  pub other : e.card.reader ≡ i
  pub last : Fine e.card.last

-- the run r brings the message m, once and whole, to the card's host, and the answer a to the reader's, whose buffer was u; and the ends
-- are ready for the next message
pub record Answered (i j : ℕ) (m a u : List ℕ) (r : Run) : Type 0 where
  pub got : r.got ≡ m ∷ []
  pub told : r.told ≡ Message (length a)
  pub up : r.ends.up ≡ overlay u 0 a
  pub lent : r.ends.lent ≡ a
  pub between : Between i j r.ends

-- demand 2: what comes of the message m and the answer a over a channel without errors, from e to the end of the run r
pub record Exchanged (i j : ℕ) (m a : List ℕ) (e : Ends) (r : Run) : Type 0 where
  pub answered : Answered i j m a e.up r
  -- the card's buffer holds the message, and is untouched behind it
  pub down : r.ends.down ≡ overlay e.down 0 m
  -- the I blocks each way are just those into which the message and the answer are cut, the first with the reader's number; the answer goes on
  -- with the number of the message's last block
  pub downs : i_blocks r.downs ≡ cut j e.reader.number m
  pub ups : i_blocks r.ups ≡ cut i (last_number j e.reader.number m) a
