-- What each end does with the frames that come up in an exchange where some are lost, beside those of crate exchange's StepLaws. Assumes nothing.
use Rattle.std.specs.Prelude.{◌≡◌, refl, Bool, cond, not, ◌&&◌, List, [], ◌∷◌, ℕ, ◌+◌, ◌%◌, ◌≤◌, length, leb, ltb}
use Rattle.std.proofs.Math.Bool.{true, false}
use Rattle.std.proofs.lemmas.Bool.{false≢true}
use native.Mathlib.Omega.{arith}
use borrow.Author.Tests.{le-ltb, le-leb, leb-true, eq-eqb}
use Rattle.refusal.specs.declared.Refusal.{Refusal}
use Rattle.refusal.specs.declared.Refusal.TheVariants.{Argument, Forbidden, TooLong, NotDue, Repeats}
use Rattle.block.specs.declared.Block.{Block}
use Rattle.block.specs.declared.Block.TheVariants.{I, Ack, Nak, Wtx, Nothing}
use Rattle.block.specs.declared.Told.TheVariants.{Quiet, Granted, Refused}
use Rattle.card_blocks.specs.declared.CardPhase.{CardPhase}
use Rattle.card_blocks.specs.declared.CardPhase.TheVariants.{Receiving, Owing, Waiting, Answering}
use Rattle.card_blocks.specs.declared.CardLink.{CardLink}
use Rattle.reader_blocks.specs.declared.ReaderPhase.TheVariants.{Stopped}
use Rattle.reader_blocks.specs.declared.Turn.{Turn}
use Rattle.reader_blocks.specs.declared.Turn.TheVariants.{Sending, Awaiting, Joining}
use Rattle.frame.specs.Frame.{Verdict, Fault}
use Rattle.limits.specs.Limits.{message_max}
use Rattle.block.specs.Cut.{payload_max, follows, part, fits}
use Rattle.block.specs.Block.{kind, verdict, block_bytes, wtx_ok}
use Rattle.block.specs.CutLaws.{payload_size, size_least}
use Rattle.card_blocks.specs.CardRules.{owes, card_sends, lent_for, card_takes, card_takes_i, card_takes_ack, card_takes_nak, card_asks}
use Rattle.card_blocks.specs.CardFrames.{card_out, card_block, card_wtx}
use Rattle.reader_blocks.specs.ReaderRules.{last_is_out, asks_again, reader_takes_i, reader_takes_ack, reader_again, reader_repeats, reader_echoes, reader_done, lent_for as messageFor}
use Rattle.reader_blocks.specs.ReaderFrames.{reader_out, reader_block}
use Rattle.exchange.specs.StepLaws.{card, reader, room_for, room_for_r, card_acked}

payload_least : (i : ℕ) → 13 ≤ payload_max i
payload_least i = omega (arith, payload_size i, size_least i)

module _ (i j : ℕ) (m U : List ℕ) (at joined again rep : ℕ) where
  -- the reader hears silence or a damaged frame
  pub reader_fails : (n : Bool) (e : Refusal) (t : Turn) (b : Bool) → ltb rep 2 ≡ b → reader_block (reader i j n t at joined again rep) (Fault e) m U
      ≡ cond b (record { link = reader i j n t at joined again (rep + 1); sent = block_bytes (asks_again t n) []; told = Quiet; buffer = U })
      (record { link = reader_done Stopped; sent = []; told = Refused Repeats; buffer = U })
  unfolding reader_block messageFor reader_out reader_repeats
  reader_fails n e Sending true eb = rw eb
  reader_fails n e Sending false eb = rw eb
  reader_fails n e Awaiting true eb = rw eb
  reader_fails n e Awaiting false eb = rw eb
  reader_fails n e Joining true eb = rw eb
  reader_fails n e Joining false eb = rw eb

  -- R(ACK) of the other number before any I of the answer has come
  pub reader_again_law : at ≤ length m → length m ≤ message_max → (n b x : Bool) → ltb again 2 ≡ x
      → reader_block (reader i j n (cond b Sending Awaiting) at joined again rep) (verdict i (block_bytes (Ack (not n)) [])) m U
      ≡ cond x (record { link = reader i j n (cond b Sending Awaiting) at joined (again + 1) 0; sent = block_bytes (I n b) (part j at m); told = Quiet; buffer = U })
      (record { link = reader_done Stopped; sent = []; told = Refused Forbidden; buffer = U })
  unfolding reader_block messageFor reader_takes_i reader_takes_ack reader_out reader_again kind
  reader_again_law h g true true true ex = rw (room_for_r i, ex, le-ltb (length m) at h, le-ltb message_max (length m) g)
  reader_again_law h g true true false ex = rw (room_for_r i, ex)
  reader_again_law h g true false true ex = rw (room_for_r i, ex, le-ltb (length m) at h, le-ltb message_max (length m) g)
  reader_again_law h g true false false ex = rw (room_for_r i, ex)
  reader_again_law h g false true true ex = rw (room_for_r i, ex, le-ltb (length m) at h, le-ltb message_max (length m) g)
  reader_again_law h g false true false ex = rw (room_for_r i, ex)
  reader_again_law h g false false true ex = rw (room_for_r i, ex, le-ltb (length m) at h, le-ltb message_max (length m) g)
  reader_again_law h g false false false ex = rw (room_for_r i, ex)

  -- WTX
  pub reader_echo : (v : ℕ) (n : Bool) → 1 ≤ v → v ≤ 59
      → reader_block (reader i j n Awaiting at joined again rep) (verdict i (block_bytes (Wtx v) [])) m U
      ≡ record { link = reader i j n Awaiting at joined again 0; sent = block_bytes (Wtx v) []; told = Quiet; buffer = U }
  unfolding reader_block messageFor reader_out reader_echoes kind wtx_ok
  reader_echo v n h₁ h₂ =
      let e : v % 64 ≡ v = omega arith in
      rw (room_for i (v ∷ []) (omega (arith, payload_least i)), e, le-leb 1 v h₁, le-leb v 59 h₂)

  -- an I of the answer that does not fit
  pub reader_full : (p : List ℕ) (t : Turn) (n b : Bool) → length p ≤ payload_max i → last_is_out t ≡ true → fits (joined + length p) (length U) ≡ false
      → reader_block (reader i j n t at joined again rep) (verdict i (block_bytes (I n b) p)) m U ≡ record { link = reader_done Stopped; sent = []; told = Refused TooLong; buffer = U }
  unfolding reader_block messageFor reader_takes_i reader_takes_ack reader_out kind
  reader_full p t true true hp et ef = rw (room_for i p hp, et, ef)
  reader_full p t true false hp et ef = rw (room_for i p hp, et, ef)
  reader_full p t false true hp et ef = rw (room_for i p hp, et, ef)
  reader_full p t false false hp et ef = rw (room_for i p hp, et, ef)

-- the card hears silence or a damaged frame
pub card_fails : (c : CardLink) (e : Refusal) (lent D : List ℕ) → owes c.phase ≡ false → card_block c (Fault e) lent D ≡ record { link = c; sent = []; told = Quiet; buffer = D }
unfolding card_block card_takes lent_for card_out
card_fails c e lent D o = rw o

-- an I that does not fit
pub card_full : (j i : ℕ) (last : Block) (at ca : ℕ) (p lent D : List ℕ) (n c b : Bool) → length p ≤ payload_max j → fits (at + length p) (length D) ≡ false
    → card_block (card j i c Receiving last at ca) (verdict j (block_bytes (I n b) p)) lent D ≡ record { link = card j i c Receiving last at ca; sent = []; told = Refused TooLong; buffer = D }
unfolding card_block card_takes lent_for card_takes_i card_takes_ack card_takes_nak card_out kind
card_full j i last at ca p lent D true c true hp ef = rw (room_for j p hp, ef)
card_full j i last at ca p lent D true c false hp ef = rw (room_for j p hp, ef)
card_full j i last at ca p lent D false c true hp ef = rw (room_for j p hp, ef)
card_full j i last at ca p lent D false c false hp ef = rw (room_for j p hp, ef)

-- R(NAK) of the other number
pub card_nak : (j i : ℕ) (last : Block) (at ca : ℕ) (lent D : List ℕ) (n : Bool)
    → card_block (card j i (not n) Receiving last at ca) (verdict j (block_bytes (Nak n) [])) lent D
    ≡ record { link = card j i (not n) Receiving (Ack (not n)) at ca; sent = block_bytes (Ack (not n)) []; told = Quiet; buffer = D }
unfolding card_block card_takes lent_for card_takes_i card_takes_ack card_takes_nak card_out kind
card_nak j i last at ca lent D true = rw (room_for_r j)
card_nak j i last at ca lent D false = rw (room_for_r j)

-- R of equal number: the last block again, where the answer that is lent does not matter to it or is the one that it is cut from
pub card_again : (j i : ℕ) (ph : CardPhase) (last : Block) (joined k : ℕ) (lent D : List ℕ) (t : Turn) (n : Bool) → owes ph ≡ false
    → lent_for (card j i n ph last joined k) (length lent) (card_sends (card j i n ph last joined k)) ≡ card_sends (card j i n ph last joined k)
    → card_block (card j i n ph last joined k) (verdict j (block_bytes (asks_again t n) [])) lent D
    ≡ record { link = card j i n ph last joined k; sent = block_bytes last (part i k lent); told = Quiet; buffer = D }
unfolding card_block card_takes card_takes_i card_takes_ack card_takes_nak card_out kind
card_again j i ph last joined k lent D Sending true o h = rw (room_for_r j, o, h)
card_again j i ph last joined k lent D Sending false o h = rw (room_for_r j, o, h)
card_again j i ph last joined k lent D Awaiting true o h = rw (room_for_r j, o, h)
card_again j i ph last joined k lent D Awaiting false o h = rw (room_for_r j, o, h)
card_again j i ph last joined k lent D Joining true o h = rw (room_for_r j, o, h)
card_again j i ph last joined k lent D Joining false o h = rw (room_for_r j, o, h)

-- R(ACK) of the other number while it is answering: the next I
pub card_next_law : (j i k : ℕ) (a D : List ℕ) (n : Bool) → k + payload_max i ≤ length a → length a ≤ message_max
    → card_block (card j i (not n) Answering (I (not n) true) 0 k) (verdict j (block_bytes (Ack n) [])) a D
    ≡ record {
      link = card j i n (cond (follows i (k + payload_max i) (length a)) Answering Receiving) (I n (follows i (k + payload_max i) (length a))) 0 (k + payload_max i);
      sent = block_bytes (I n (follows i (k + payload_max i) (length a))) (part i (k + payload_max i) a);
      told = Quiet;
      buffer = D;
    }
card_next_law j i k a D true h g = card_acked j i (I false true) 0 k false a D h g
card_next_law j i k a D false h g = card_acked j i (I true true) 0 k true a D h g

-- a frame while the answer is owed
pub card_owing : (j i : ℕ) (n : Bool) (v : Verdict) (lent D : List ℕ) → card_block (card j i n Owing Nothing 0 0) v lent D ≡ record { link = card j i n Owing Nothing 0 0; sent = []; told = Refused NotDue; buffer = D }
unfolding card_block card_takes card_out
card_owing j i n v lent D = refl

-- the WTX that was asked is granted
pub card_granted_law : (j i : ℕ) (n : Bool) (v : ℕ) (lent D : List ℕ) → card_block (card j i n (Waiting v) (Wtx v) 0 0) (verdict j (block_bytes (Wtx v) [])) lent D
    ≡ record { link = card j i n Owing Nothing 0 0; sent = []; told = Granted; buffer = D }
unfolding card_block card_takes lent_for card_takes_i card_takes_ack card_takes_nak card_out kind
card_granted_law j i n v lent D = rw (room_for j (v ∷ []) (omega (arith, payload_least j)), eq-eqb v v refl)

-- the host asks for WTX
pub card_asks_law : (j i : ℕ) (n : Bool) (v : ℕ) (D : List ℕ) (b : Bool) → wtx_ok v ≡ b → card_wtx (card j i n Owing Nothing 0 0) v D
    ≡ cond b (record { link = card j i n (Waiting v) (Wtx v) 0 0; sent = block_bytes (Wtx v) []; told = Quiet; buffer = D })
    (record { link = card j i n Owing Nothing 0 0; sent = []; told = Refused Argument; buffer = D })
unfolding card_wtx card_asks card_out
card_asks_law j i n v D true e = rw e
card_asks_law j i n v D false e = rw e

pub wtx_range : (v : ℕ) → wtx_ok v ≡ true → (1 ≤ v) × (v ≤ 59)
unfolding wtx_ok
wtx_range v e = go (leb 1 v) (leb v 59) refl refl e
  where
    go : (x y : Bool) → leb 1 v ≡ x → leb v 59 ≡ y → x && y ≡ true → (1 ≤ v) × (v ≤ 59)
    go true true ex ey e = (leb-true 1 v ex, leb-true v 59 ey)
    go true false ex ey e = absurd (false≢true e)
    go false y ex ey e = absurd (false≢true e)
