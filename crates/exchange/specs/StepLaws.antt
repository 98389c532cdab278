-- What each end does with the frames that come up in an exchange over a channel without errors. Assumes nothing.
use Rattle.std.specs.Prelude.{◌≡◌, Bool, cond, not, List, [], ℕ, ◌+◌, ◌≤◌, leb}
use Rattle.std.proofs.Math.Bool.{true, false}
use Rattle.std.proofs.Common.{arith, le-ltb, le-leb}
use Rattle.std.proofs.Math.ListN.{length}
use Rattle.block.specs.declared.Block.{Block}
use Rattle.block.specs.declared.Block.TheVariants.{I, Ack, Nothing}
use Rattle.block.specs.declared.Told.TheVariants.{Quiet, Message}
use Rattle.card_blocks.specs.declared.CardPhase.{CardPhase}
use Rattle.card_blocks.specs.declared.CardPhase.TheVariants.{Receiving, Owing, Answering}
use Rattle.card_blocks.specs.declared.CardLink.{CardLink}
use Rattle.reader_blocks.specs.declared.ReaderPhase.TheVariants.{Talking}
use Rattle.reader_blocks.specs.declared.Turn.{Turn}
use Rattle.reader_blocks.specs.declared.Turn.TheVariants.{Sending, Awaiting, Joining}
use Rattle.reader_blocks.specs.declared.ReaderLink.{ReaderLink}
use Rattle.rows.specs.Rows.{overlay}
use Rattle.selection.specs.Selection.{size}
use Rattle.limits.specs.Limits.{message_max}
use Rattle.block.specs.Cut.{payload_max, follows, part}
use Rattle.block.specs.Block.{kind, verdict, block_bytes}
use Rattle.block.specs.CutLaws.{payload_size, fits_both}
use Rattle.card_blocks.specs.CardRules.{card_i, lent_for, card_takes, card_takes_i, card_takes_ack, card_replies}
use Rattle.card_blocks.specs.CardFrames.{card_out, card_block, card_reply}
use Rattle.reader_blocks.specs.ReaderRules.{last_is_out, reader_takes_i, reader_takes_ack, reader_i, reader_starts, reader_open, lent_for as messageFor}
use Rattle.reader_blocks.specs.ReaderFrames.{reader_out, reader_block, reader_send}

-- a card and a reader by their parts
abbrev pub card : ℕ → ℕ → Bool → CardPhase → Block → ℕ → ℕ → CardLink
card j i n ph last joined at = record { own = j; reader = i; number = n; phase = ph; last = last; joined = joined; at = at }

abbrev pub reader : ℕ → ℕ → Bool → Turn → ℕ → ℕ → ℕ → ℕ → ReaderLink
reader i j n t at joined again rep = record { own = i; card = j; number = n; phase = Talking t; at = at; joined = joined; again = again; repeats = rep }

-- a block that goes to an end of size index i is not too long for it
pub room_for : (i : ℕ) (p : List ℕ) → length p ≤ payload_max i → leb (3 + length p) (size i) ≡ true
room_for i p h = le-leb (3 + length p) (size i) (omega (arith, payload_size i))

pub room_for_r : (i : ℕ) → leb (3 + 0) (size i) ≡ true
room_for_r i = le-leb 3 (size i) (omega (arith, payload_size i))

module _ (j i : ℕ) (last : Block) (k at : ℕ) (p lent d : List ℕ) (hp : length p ≤ payload_max j) (hm : at + length p ≤ message_max) (hd : at + length p ≤ length d) where
  -- a chained I
  pub card_chained : (n : Bool) → card_block (card j i (not n) Receiving last at k) (verdict j (block_bytes (I n true) p)) lent d
      ≡ record { link = card j i n Receiving (Ack n) (at + length p) 0; sent = block_bytes (Ack n) []; told = Quiet; buffer = overlay d at p }
  unfolding card_block card_takes lent_for card_takes_i card_out kind
  card_chained true = rw (room_for j p hp, fits_both (at + length p) (length d) hm hd)
  card_chained false = rw (room_for j p hp, fits_both (at + length p) (length d) hm hd)

  -- the last I
  pub card_last : (n : Bool) → card_block (card j i (not n) Receiving last at k) (verdict j (block_bytes (I n false) p)) lent d
      ≡ record { link = card j i n Owing Nothing 0 0; sent = []; told = Message (at + length p); buffer = overlay d at p }
  unfolding card_block card_takes lent_for card_takes_i card_out kind
  card_last true = rw (room_for j p hp, fits_both (at + length p) (length d) hm hd)
  card_last false = rw (room_for j p hp, fits_both (at + length p) (length d) hm hd)

-- the host's answer
pub card_reply_law : (j i : ℕ) (last : Block) (joined k : ℕ) (n : Bool) (a d : List ℕ) → length a ≤ message_max → card_reply (card j i n Owing last joined k) a d
    ≡ record {
      link = card j i n (cond (follows i 0 (length a)) Answering Receiving) (I n (follows i 0 (length a))) 0 0;
      sent = block_bytes (I n (follows i 0 (length a))) (part i 0 a);
      told = Quiet;
      buffer = d;
    }
unfolding card_reply card_replies card_out card_i
card_reply_law j i last joined k n a d h = rw (le-leb (length a) message_max h)

-- R(ACK) of the other number while it is answering
pub card_acked : (j i : ℕ) (last : Block) (joined k : ℕ) (n : Bool) (a d : List ℕ) → k + payload_max i ≤ length a → length a ≤ message_max
    → card_block (card j i n Answering last joined k) (verdict j (block_bytes (Ack (not n)) [])) a d
    ≡ record {
      link = card j i (not n) (cond (follows i (k + payload_max i) (length a)) Answering Receiving) (I (not n) (follows i (k + payload_max i) (length a))) 0 (k + payload_max i);
      sent = block_bytes (I (not n) (follows i (k + payload_max i) (length a))) (part i (k + payload_max i) a);
      told = Quiet;
      buffer = d;
    }
unfolding card_block card_takes lent_for card_takes_ack card_out card_i kind
card_acked j i last joined k true a d h g = rw (room_for_r j, le-ltb (length a) (k + payload_max i) h, le-ltb message_max (length a) g)
card_acked j i last joined k false a d h g = rw (room_for_r j, le-ltb (length a) (k + payload_max i) h, le-ltb message_max (length a) g)

-- the host's message
pub reader_start : (i j : ℕ) (n : Bool) (m u : List ℕ) → length m ≤ message_max → reader_send (reader_open i j n) m u
    ≡ record { link = reader i j n (cond (follows j 0 (length m)) Sending Awaiting) 0 0 0 0; sent = block_bytes (I n (follows j 0 (length m))) (part j 0 m); told = Quiet; buffer = u }
unfolding reader_send reader_starts reader_out reader_i
reader_start i j n m u h = rw (le-leb (length m) message_max h)

-- R(ACK) of the own number while there is more to send
pub reader_acked : (i j at again rep : ℕ) (n : Bool) (m u : List ℕ) → at + payload_max j ≤ length m → length m ≤ message_max
    → reader_block (reader i j n Sending at 0 again rep) (verdict i (block_bytes (Ack n) [])) m u
    ≡ record {
      link = reader i j (not n) (cond (follows j (at + payload_max j) (length m)) Sending Awaiting) (at + payload_max j) 0 0 0;
      sent = block_bytes (I (not n) (follows j (at + payload_max j) (length m))) (part j (at + payload_max j) m);
      told = Quiet;
      buffer = u;
    }
unfolding reader_block messageFor reader_takes_ack reader_out reader_i kind
reader_acked i j at again rep true m u h g = rw (room_for_r i, le-ltb (length m) (at + payload_max j) h, le-ltb message_max (length m) g)
reader_acked i j at again rep false m u h g = rw (room_for_r i, le-ltb (length m) (at + payload_max j) h, le-ltb message_max (length m) g)

module _ (i j at joined again rep : ℕ) (p m u : List ℕ) (hp : length p ≤ payload_max i) (hm : joined + length p ≤ message_max) (hu : joined + length p ≤ length u) where
  -- a chained I of the answer
  pub reader_chained : (t : Turn) (n : Bool) → last_is_out t ≡ true → reader_block (reader i j n t at joined again rep) (verdict i (block_bytes (I n true) p)) m u
      ≡ record { link = reader i j (not n) Joining 0 (joined + length p) 0 0; sent = block_bytes (Ack (not n)) []; told = Quiet; buffer = overlay u joined p }
  unfolding reader_block messageFor reader_takes_i reader_out kind
  reader_chained t true e = rw (room_for i p hp, e, fits_both (joined + length p) (length u) hm hu)
  reader_chained t false e = rw (room_for i p hp, e, fits_both (joined + length p) (length u) hm hu)

  -- its last I
  pub reader_last : (t : Turn) (n : Bool) → last_is_out t ≡ true → reader_block (reader i j n t at joined again rep) (verdict i (block_bytes (I n false) p)) m u
      ≡ record { link = reader_open i j (not n); sent = []; told = Message (joined + length p); buffer = overlay u joined p }
  unfolding reader_block messageFor reader_takes_i reader_out kind
  reader_last t true e = rw (room_for i p hp, e, fits_both (joined + length p) (length u) hm hu)
  reader_last t false e = rw (room_for i p hp, e, fits_both (joined + length p) (length u) hm hu)
