-- Where both ends stand between two rounds of an exchange in which frames are lost: the invariant of T-11's proofs. A reader's frame is out.
use Rattle.std.specs.Prelude.{ℕ, ◌+◌, ◌-◌, ◌≤◌, ◌<◌, ◌≡◌, Bool, true, false, cond, not, List, [], length, take}
use Rattle.rows.specs.Rows.{overlay}
use Rattle.block.specs.declared.Block.{Block}
use Rattle.block.specs.declared.Block.TheVariants.{I, Ack, Nak, Wtx, Nothing}
use Rattle.card_blocks.specs.declared.CardPhase.TheVariants.{Receiving, Owing, Waiting, Answering}
use Rattle.card_blocks.specs.declared.CardLink.{CardLink}
use Rattle.reader_blocks.specs.declared.ReaderLink.{ReaderLink}
use Rattle.reader_blocks.specs.declared.Turn.{Turn}
use Rattle.reader_blocks.specs.declared.Turn.TheVariants.{Sending, Awaiting, Joining}
use Rattle.block.specs.Cut.{payload_max, follows, part, fewest}
use Rattle.block.specs.Block.{block_bytes}
use Rattle.reader_blocks.specs.ReaderRules.{last_is_out, asks_again}
use Rattle.exchange.specs.Exchange.{Ends, Fine}
use Rattle.exchange.specs.StepLaws.{card, reader}

pub data Stage : Type 0 where
  -- the reader's last I has not been taken; of the card its last block and the place of its last I
  Fresh : Block → ℕ → Stage
  -- it has been taken, and more follows
  Acked : Stage
  -- it was the last, and the host owes the answer
  Owed : Stage
  -- .. or has asked for WTX with that value
  Asked : ℕ → Stage
  -- the card's I of that place has been sent and not been taken; the reader has sent its last I, or is joining
  Shown : Turn → ℕ → Stage
  -- it has been taken, and more follows
  Joined : ℕ → Stage

-- the reader's number, the place of its last I, how often that went again, the repeats running; the stage; and whether the reader's own frame
-- is out or what it sends after silence or damage
pub data Place : Type 0 where
  place : (n : Bool) (at again rep : ℕ) (g : Stage) (own : Bool) → Place

-- what does not change in an exchange: the size indexes of reader and card, the message, its answer, and what the card's and the reader's
-- buffers and the answer that was lent to the card were at the start
pub record Case : Type 0 where
  pub i : ℕ
  pub j : ℕ
  pub m : List ℕ
  pub a : List ℕ
  pub d : List ℕ
  pub u : List ℕ
  pub lent : List ℕ

module _ (z : Case) where
  abbrev i : ℕ
  i = z.i

  abbrev j : ℕ
  j = z.j

  abbrev m : List ℕ
  m = z.m

  abbrev a : List ℕ
  a = z.a

  abbrev d : List ℕ
  d = z.d

  abbrev u : List ℕ
  u = z.u

  abbrev lent : List ℕ
  lent = z.lent

  abbrev pub turn_of : ℕ → Stage → Turn
  turn_of at (Fresh last k) = cond (follows j at (length m)) Sending Awaiting
  turn_of at Acked = Sending
  turn_of at Owed = Awaiting
  turn_of at (Asked v) = Awaiting
  turn_of at (Shown t k) = t
  turn_of at (Joined k) = Joining

  -- how much the reader has joined
  abbrev pub joined_of : Stage → ℕ
  joined_of (Fresh last k) = 0
  joined_of Acked = 0
  joined_of Owed = 0
  joined_of (Asked v) = 0
  joined_of (Shown t k) = k
  joined_of (Joined k) = k + payload_max i

  abbrev pub up_of : Stage → List ℕ
  up_of (Fresh last k) = u
  up_of Acked = u
  up_of Owed = u
  up_of (Asked v) = u
  up_of (Shown t k) = overlay u 0 (take k a)
  up_of (Joined k) = overlay u 0 (take (k + payload_max i) a)

  abbrev pub card_of : Bool → ℕ → Stage → CardLink
  card_of n at (Fresh last k) = card j i (not n) Receiving last at k
  card_of n at Acked = card j i n Receiving (Ack n) (at + payload_max j) 0
  card_of n at Owed = card j i n Owing Nothing 0 0
  card_of n at (Asked v) = card j i n (Waiting v) (Wtx v) 0 0
  card_of n at (Shown t k) = card j i n (cond (follows i k (length a)) Answering Receiving) (I n (follows i k (length a))) 0 k
  card_of n at (Joined k) = card j i (not n) Answering (I (not n) true) 0 k

  abbrev pub down_of : ℕ → Stage → List ℕ
  down_of at (Fresh last k) = overlay d 0 (take at m)
  down_of at Acked = overlay d 0 (take (at + payload_max j) m)
  down_of at Owed = overlay d 0 m
  down_of at (Asked v) = overlay d 0 m
  down_of at (Shown t k) = overlay d 0 m
  down_of at (Joined k) = overlay d 0 m

  abbrev pub lent_of : Stage → List ℕ
  lent_of (Fresh last k) = lent
  lent_of Acked = lent
  lent_of Owed = lent
  lent_of (Asked v) = lent
  lent_of (Shown t k) = a
  lent_of (Joined k) = a

  -- how often the command has been delivered
  abbrev pub done_of : Stage → ℕ
  done_of (Fresh last k) = 0
  done_of Acked = 0
  done_of Owed = 1
  done_of (Asked v) = 1
  done_of (Shown t k) = 1
  done_of (Joined k) = 1

  abbrev pub reader_of : Bool → ℕ → ℕ → ℕ → Stage → ReaderLink
  reader_of n at again rep g = reader i j n (turn_of at g) at (joined_of g) again rep

  abbrev pub ends_of : Place → Ends
  ends_of (place n at again rep g own) =
      record { reader = reader_of n at again rep g; card = card_of n at g; down = down_of at g; up = up_of g; lent = lent_of g }

  -- the reader's frame that is out
  abbrev pub frame_of : Place → List ℕ
  frame_of (place n at again rep (Fresh last k) true) = block_bytes (I n (follows j at (length m))) (part j at m)
  frame_of (place n at again rep (Fresh last k) false) = block_bytes (Nak n) []
  frame_of (place n at again rep Acked own) = block_bytes (Nak n) []
  frame_of (place n at again rep Owed own) = block_bytes (Nak n) []
  frame_of (place n at again rep (Asked v) true) = block_bytes (Wtx v) []
  frame_of (place n at again rep (Asked v) false) = block_bytes (Nak n) []
  frame_of (place n at again rep (Shown t k) own) = block_bytes (asks_again t n) []
  frame_of (place n at again rep (Joined k) own) = block_bytes (Ack n) []

  -- the card's block, where it sends one
  abbrev pub reply_of : Bool → Stage → List ℕ
  reply_of n (Fresh last k) = block_bytes (Ack (not n)) []
  reply_of n Acked = block_bytes (Ack n) []
  reply_of n Owed = []
  reply_of n (Asked v) = block_bytes (Wtx v) []
  reply_of n (Shown t k) = block_bytes (I n (follows i k (length a))) (part i k a)
  reply_of n (Joined k) = []

  -- THE INVARIANT
  abbrev pub Ok : ℕ → Stage → Type 0
  Ok at (Fresh last k) = (at ≤ length m) × (at ≤ length d) × Fine last
  Ok at Acked = (at + payload_max j < length m) × (at + payload_max j ≤ length d)
  Ok at Owed = at ≤ length m
  Ok at (Asked v) = (at ≤ length m) × (1 ≤ v) × (v ≤ 59)
  Ok at (Shown t k) = (at ≤ length m) × (k ≤ length a) × (k ≤ length u) × (last_is_out t ≡ true)
  Ok at (Joined k) = (at ≤ length m) × (k + payload_max i < length a) × (k + payload_max i ≤ length u)

  abbrev pub OkAt : Place → Type 0
  OkAt (place n at again rep g own) = Ok at g

  abbrev pub done : Place → ℕ
  done (place n at again rep g own) = done_of g

  abbrev pub number_at : Place → Bool
  number_at s = (ends_of s).reader.number

  -- ---- second claim: b frames may be lost before the reader's next toggle

  -- the counts: each repeat has cost a frame, and so has each I sent again. A host that answers at once leaves no card that owes
  abbrev pub Count : Place → ℕ → Type 0
  Count (place n at again rep (Fresh last k) true) b = (again + b ≤ 2) × (rep ≡ 0)
  Count (place n at again rep (Fresh last k) false) b = (again + rep + b ≤ 2) × (1 ≤ rep)
  Count (place n at again rep Acked own) b = rep + b ≤ 2
  Count (place n at again rep Owed own) b = ⊥
  Count (place n at again rep (Asked v) own) b = ⊥
  Count (place n at again rep (Shown t k) own) b = rep + b ≤ 2
  Count (place n at again rep (Joined k) own) b = rep + b ≤ 2

  -- the reader's toggles that are left, and one more
  abbrev pub toggles : ℕ → Stage → ℕ
  toggles at (Fresh last k) = fewest j (length m - at) + fewest i (length a)
  toggles at Acked = fewest j (length m - at) + fewest i (length a)
  toggles at Owed = 0
  toggles at (Asked v) = 0
  toggles at (Shown t k) = 1 + fewest i (length a - k)
  toggles at (Joined k) = 1 + fewest i (length a - (k + payload_max i))

  -- so many rounds up to the end, and one more, if nothing is lost from now on: one for each toggle, and one where R(NAK) is out for an I that
  -- the card has not taken
  abbrev pub extra : Stage → Bool → ℕ
  extra (Fresh last k) own = cond own 0 1
  extra Acked own = 0
  extra Owed own = 0
  extra (Asked v) own = 0
  extra (Shown t k) own = 0
  extra (Joined k) own = 0

  abbrev pub need : Place → ℕ
  need (place n at again rep g own) = toggles at g + extra g own
