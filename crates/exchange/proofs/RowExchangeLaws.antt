-- The exchange on rows is the exchange on bytes, since a frame with CRC_A which is not too long reads back as the bytes that were sent.
use Rattle.std.specs.Prelude.{◌≡◌, Bool, cond, length, replicate, leb}
use Rattle.std.proofs.Math.Path.{refl}
use Rattle.std.proofs.Common.{sym, ap, ◌∙◌}
use Rattle.std.proofs.Math.Bool.{true, false}
use Rattle.std.proofs.lemmas.Bool.{false≢true}
use mathlib.Core.List.{List, [], map}
use Prim.Native.Nat.{ℕ, zero, suc, ◌+◌, ◌≤◌}
use Rattle.rows.specs.Rows.{Bytes}
use Rattle.frame.specs.Frame.{Verdict}
use Rattle.card.specs.declared.Card.{Card}
use Rattle.card.specs.declared.CardState.TheVariants.{Protocol}
use Rattle.reader.specs.declared.Reader.{Reader}
use Rattle.refusal.specs.declared.Refusal.TheVariants.{TooLong, NotDue}
use Rattle.block.specs.declared.Block.{Block}
use Rattle.block.specs.declared.Told.{Told}
use Rattle.block.specs.declared.Told.TheVariants.{Refused}
use Rattle.limits.specs.Limits.{message_max, row_room}
use Rattle.block.specs.Cut.{fewest, part, cut, last_number}
use Rattle.block.proofs.CutBlockLaws.{cut_count}
use Rattle.block.specs.Block.{verdict, heard_block, payload, block_bytes}
use Rattle.block.specs.Out.{Out}
use Rattle.block.specs.Row.{block_row}
use Rattle.card_blocks.specs.declared.CardLink.{CardLink}
use Rattle.card_blocks.specs.declared.CardStep.{CardStep}
use Rattle.card_blocks.specs.CardRules.{card_open, owes, card_silent, card_i, card_takes, card_replies}
use Rattle.card_blocks.specs.CardFrames.{card_out, card_block, card_reply}
use Rattle.card_blocks.specs.CaseLaws.{leaves}
use Rattle.card_link.specs.CardCalls.{owing, take_call, reply_call}
use Rattle.card_link.specs.StayLaws.{left_stays}
use Rattle.card_link.specs.CardRowLaws.{take_block, reply_block}
use Rattle.reader_blocks.specs.declared.ReaderPhase.{ReaderPhase}
use Rattle.reader_blocks.specs.declared.ReaderPhase.TheVariants.{Open, Talking, Leaving, Finished, Stopped}
use Rattle.reader_blocks.specs.declared.ReaderLink.{ReaderLink}
use Rattle.reader_link.specs.declared.Link.{Link}
use Rattle.reader_link.specs.declared.Link.TheVariants.{Linked}
use Rattle.reader_link.specs.declared.LinkAnswer.TheVariants.{Blocks}
use Rattle.reader_blocks.specs.declared.ReaderStep.{ReaderStep}
use Rattle.reader_blocks.specs.ReaderRules.{reader_open, reader_keeps, reader_i, reader_takes, is_open, reader_starts}
use Rattle.reader_blocks.specs.ReaderFrames.{reader_out, reader_block, reader_send}
use Rattle.reader_link.specs.ReaderCalls.{linked, linking, awaits_block, hear_call}
use Rattle.reader_link.specs.ReaderRowLaws.{hear_block, send_block}
use Rattle.exchange.specs.Exchange.{Ends, clean, Passed, passes, Run, is_quiet, exchange, talk, i_blocks, Fine, Between, Exchanged}
use Rattle.exchange.proofs.ExchangeLaws.{passed, exchanged_in, after_ats_law}
use Rattle.exchange.specs.RowExchange.{RowEnds, RowPassed, row_passes, RowRun, row_exchange, row_talk, RowBetween, number_in, Terms, RowExchanged}
use Rattle.exchange.specs.FineLaws.{fine_bytes, part_bytes_law, FineCard, takes_fine, replies_fine, talks, fine_heard, Goes, FineReader, hears_fine, starts_fine, quiet_talks}

pub linked_talks : (r : Reader) (ph : ReaderPhase) (l : ReaderLink) → talks ph ≡ true → linked r ph l ≡ record { reader = r; link = Linked l }
linked_talks r (Talking t) l e = refl
linked_talks r Open l e = absurd (false≢true e)
linked_talks r Leaving l e = absurd (false≢true e)
linked_talks r Finished l e = absurd (false≢true e)
linked_talks r Stopped l e = absurd (false≢true e)

pub linked_open : (r : Reader) (ph : ReaderPhase) (l : ReaderLink) → is_open ph ≡ true → linked r ph l ≡ record { reader = r; link = Linked l }
linked_open r Open l e = refl
linked_open r (Talking t) l e = absurd (false≢true e)
linked_open r Leaving l e = absurd (false≢true e)
linked_open r Finished l e = absurd (false≢true e)
linked_open r Stopped l e = absurd (false≢true e)

pub talks_awaits : (ph : ReaderPhase) → talks ph ≡ true → awaits_block ph ≡ true
talks_awaits (Talking t) e = refl
talks_awaits Open e = absurd (false≢true e)
talks_awaits Leaving e = absurd (false≢true e)
talks_awaits Finished e = absurd (false≢true e)
talks_awaits Stopped e = absurd (false≢true e)

-- the whole card and the whole reader around two links
abbrev pub wide : Card → Reader → Ends → RowEnds
wide c r e =
    record {
      reader = linked r e.reader.phase e.reader;
      card = record { card = c; link = e.card };
      down = e.down;
      up = e.up;
      lent = e.lent;
    }

-- an exchange that is under way, the reader's bytes f out
pub record Going (e : Ends) (f : List ℕ) : Type 0 where
  pub block : Block
  pub load : List ℕ
  pub is : f ≡ block_bytes block load
  pub fine : Fine block
  pub bytes : Bytes load
  pub last : Fine e.card.last
  pub lent : Bytes e.lent
  pub talking : talks e.reader.phase ≡ true

-- the card after a fine block, and after its host's answer
pub record FineOut (v : Out CardLink) : Type 0 where
  pub stays : leaves v.told ≡ false
  pub last : Fine v.link.last
  pub sent : Bytes v.sent

pub sent_fine : (z : CardStep) (m : List ℕ) → Fine z.send → Bytes m → Bytes (block_bytes z.send (part z.link.reader z.link.at m))
sent_fine z m f h = fine_bytes z.send (part z.link.reader z.link.at m) f (part_bytes_law z.link.reader z.link.at m h)

block_fine : (k : CardLink) (b : Block) (p lent d : List ℕ) → Fine b → Fine k.last → Bytes lent
    → FineOut (card_block k (verdict k.own (block_bytes b p)) lent d)
unfolding card_block card_out
block_fine k b p lent d f l hl =
    let v : Verdict = verdict k.own (block_bytes b p) in
    let z : CardStep = card_takes k (heard_block v) (length (payload v)) (length d) (length lent) in
    let x : FineCard z = takes_fine k (heard_block v) (length (payload v)) (length d) (length lent) (fine_heard k.own b p f) l in
    record { stays = x.stays; last = x.keeps; sent = sent_fine z lent x.sends hl }

pub reply_fine : (k : CardLink) (a d : List ℕ) → Fine k.last → Bytes a → FineOut (card_reply k a d)
unfolding card_reply card_out
reply_fine k a d l ha =
    let x : FineCard (card_replies k (length a)) = replies_fine k (length a) l in
    record { stays = x.stays; last = x.keeps; sent = sent_fine (card_replies k (length a)) a x.sends ha }

-- an answer joins nothing: the buffer is as it was
replies_join : (k : CardLink) (len : ℕ) → (card_replies k len).joins ≡ false
unfolding card_replies card_i
replies_join k len = go (owes k.phase) (leb len message_max)
  where
    go : (t u : Bool) → (cond t (cond u (card_i k k.number 0 len) (card_silent k (Refused TooLong))) (card_silent k (Refused NotDue))).joins ≡ false
    go true true = refl
    go true false = refl
    go false u = refl

pub reply_out : (k : CardLink) (a d : List ℕ)
    → card_reply k a d ≡ record { link = (card_reply k a []).link; sent = (card_reply k a []).sent; told = (card_reply k a []).told; buffer = d }
unfolding card_reply card_out
reply_out k a d = rw (replies_join k (length a))

-- the reader after a frame, and after its host's message
record FineSent (z : Out ReaderLink) : Type 0 where
  pub block : Block
  pub load : List ℕ
  pub is : z.sent ≡ block_bytes block load
  pub fine : Fine block
  pub bytes : Bytes load
  pub goes : Goes z.told z.link.phase

out_fine : (z : ReaderStep) (m up p : List ℕ) (n : ℕ) → FineReader z → Bytes m → FineSent (reader_out z m up n p)
unfolding reader_out
out_fine z m up p n x hm =
    record { block = z.send; load = part z.link.card z.link.at m; is = refl; fine = x.sends; bytes = part_bytes_law z.link.card z.link.at m hm; goes = x.goes }

hear_fine : (k : ReaderLink) (v : Verdict) (m up : List ℕ) → talks k.phase ≡ true → Bytes m → FineSent (reader_block k v m up)
unfolding reader_block
hear_fine k v m up t hm =
    out_fine (reader_takes k k.phase (heard_block v) (length (payload v)) (length up) (length m)) m up (payload v) k.joined
    (hears_fine k k.phase (heard_block v) (length (payload v)) (length up) (length m) t) hm

send_fine : (k : ReaderLink) (m up : List ℕ) → Bytes m → FineSent (reader_send k m up)
unfolding reader_send
send_fine k m up hm = out_fine (reader_starts k (length m)) m up [] 0 (starts_fine k (length m)) hm

-- a message handed in joins nothing
starts_join : (k : ReaderLink) (len : ℕ) → (reader_starts k len).joins ≡ false
unfolding reader_starts reader_i
starts_join k len = go (is_open k.phase) (leb len message_max)
  where
    go : (t u : Bool) → (cond t (cond u (reader_i k k.number 0 len) (reader_keeps k TooLong)) (reader_keeps k NotDue)).joins ≡ false
    go true true = refl
    go true false = refl
    go false u = refl

send_out : (k : ReaderLink) (m up : List ℕ)
    → reader_send k m up ≡ record { link = (reader_send k m []).link; sent = (reader_send k m []).sent; told = (reader_send k m []).told; buffer = up }
unfolding reader_send reader_out
send_out k m up = rw (starts_join k (length m))

module _ (c : Card) (i : ℕ) (s : c.state ≡ Protocol i) (r : Reader) (room : ℕ) (h : row_room ≤ room) (m a : List ℕ) (hm : Bytes m) (ha : Bytes a) where
  -- what the card does with the row of a fine block, and with its host's answer
  card_takes_law : (e : Ends) (b : Block) (p : List ℕ) (v : Out CardLink) → Fine b → Bytes p → FineOut v
      → card_block e.card (verdict e.card.own (block_bytes b p)) e.lent e.down ≡ v
      → take_call (record { card = c; link = e.card }) (block_row (block_bytes b p)) e.lent e.down room
      ≡ record { link = record { card = c; link = v.link }; sent = block_row v.sent; told = v.told; buffer = v.buffer }
  card_takes_law e b p v f hp x ev =
      take_block (record { card = c; link = e.card }) i room s h (block_bytes b p) e.lent e.down (fine_bytes b p f hp)
      ∙ rw (ev, left_stays v.told c v.link x.stays)

  card_replies_law : (k : CardLink) → owes k.phase ≡ true → FineOut (card_reply k a [])
      → reply_call (record { card = c; link = k }) a room
      ≡ record { link = record { card = c; link = (card_reply k a []).link }; sent = block_row (card_reply k a []).sent; told = (card_reply k a []).told; buffer = (card_reply k a []).buffer }
  card_replies_law k o x =
      reply_block (record { card = c; link = k }) i room s h a o ∙ rw (left_stays (card_reply k a []).told c (card_reply k a []).link x.stays)

  -- what the reader does with the card's row
  reader_hears_law : (e : Ends) (f : List ℕ) → Bytes f → talks e.reader.phase ≡ true → (o : Out ReaderLink) → reader_block e.reader (verdict e.reader.own f) m e.up ≡ o
      → hear_call (linked r e.reader.phase e.reader) (block_row f) m e.up room
      ≡ record { turn = record { reader = linked r o.link.phase o.link; answer = Blocks (length (block_row o.sent)) o.told }; sent = block_row o.sent; buffer = o.buffer }
  unfolding linking
  reader_hears_law e f hf t o eo =
      rw (linked_talks r e.reader.phase e.reader t, ← eo)
      (hear_block (record { reader = r; link = Linked e.reader }) e.reader room refl h f m e.up hf (talks_awaits e.reader.phase t))

  -- a round on rows is a round on bytes
  abbrev rows : Passed → RowPassed
  rows p = record { got = p.got; reply = block_row p.reply; ends = wide c r p.ends; told = p.told; next = block_row p.next }

  row_passed : (e : Ends) (b : Block) (p : List ℕ) → Fine b → Bytes p → Fine e.card.last → Bytes e.lent → talks e.reader.phase ≡ true
      → row_passes m a room (wide c r e) (block_row (block_bytes b p)) ≡ rows (passes m a clean e (block_bytes b p))
  unfolding row_passes
  row_passed e b p f hp l hl t = go (card_block e.card (verdict e.card.own (block_bytes b p)) e.lent e.down) refl
    where
      half : (v : Out CardLink) → card_block e.card (verdict e.card.own (block_bytes b p)) e.lent e.down ≡ v → FineOut v
          → (o : Bool) → owes v.link.phase ≡ o → row_passes m a room (wide c r e) (block_row (block_bytes b p)) ≡ rows (passes m a clean e (block_bytes b p))
      half v ev x false o =
          let z : Out ReaderLink = reader_block e.reader (verdict e.reader.own v.sent) m e.up in
          let w : owing (record { card = c; link = v.link }) ≡ false = rw (s, o) in
          rw (passed m a e (block_bytes b p) clean v v e.lent z ev (rw o) refl, card_takes_law e b p v f hp x ev, w, reader_hears_law e v.sent x.sent t z refl)
      half v ev x true o =
          let k : Out CardLink = card_reply v.link a [] in
          let y : FineOut k = reply_fine v.link a [] x.last ha in
          let q : Out CardLink = record { link = k.link; sent = k.sent; told = k.told; buffer = v.buffer } in
          let z : Out ReaderLink = reader_block e.reader (verdict e.reader.own k.sent) m e.up in
          let w : owing (record { card = c; link = v.link }) ≡ true = rw (s, o) in
          rw (
            passed m a e (block_bytes b p) clean v q a z ev (rw (o, reply_out v.link a v.buffer)) refl,
            card_takes_law e b p v f hp x ev,
            w,
            card_replies_law v.link o y,
            reader_hears_law e k.sent y.sent t z refl,
          )

      go : (v : Out CardLink) → card_block e.card (verdict e.card.own (block_bytes b p)) e.lent e.down ≡ v
          → row_passes m a room (wide c r e) (block_row (block_bytes b p)) ≡ rows (passes m a clean e (block_bytes b p))
      go v ev = half v ev (rw ev at (block_fine e.card b p e.lent e.down f l hl)) (owes v.link.phase) refl

  -- and the exchange goes on
  goes_on_law : (e : Ends) (b : Block) (p : List ℕ) → Fine b → Bytes p → Fine e.card.last → Bytes e.lent → talks e.reader.phase ≡ true
      → is_quiet (passes m a clean e (block_bytes b p)).told ≡ true → Going (passes m a clean e (block_bytes b p)).ends (passes m a clean e (block_bytes b p)).next
  goes_on_law e b p f hp l hl t q = go (card_block e.card (verdict e.card.own (block_bytes b p)) e.lent e.down) refl
    where
      on : (k : CardLink) (z : Out ReaderLink) (d n : List ℕ) → Fine k.last → Bytes n → FineSent z → is_quiet z.told ≡ true
          → Going (record { reader = z.link; card = k; down = d; up = z.buffer; lent = n }) z.sent
      on k z d n lk hn y q =
          record {
            block = y.block;
            load = y.load;
            is = y.is;
            fine = y.fine;
            bytes = y.bytes;
            last = lk;
            lent = hn;
            talking = quiet_talks z.told z.link.phase y.goes q;
          }

      half : (v : Out CardLink) → card_block e.card (verdict e.card.own (block_bytes b p)) e.lent e.down ≡ v → FineOut v
          → (o : Bool) → owes v.link.phase ≡ o → Going (passes m a clean e (block_bytes b p)).ends (passes m a clean e (block_bytes b p)).next
      half v ev x false o =
          let z : Out ReaderLink = reader_block e.reader (verdict e.reader.own v.sent) m e.up in
          let w = passed m a e (block_bytes b p) clean v v e.lent z ev (rw o) refl in
          rw w (on v.link z v.buffer e.lent x.last hl (hear_fine e.reader (verdict e.reader.own v.sent) m e.up t hm) (rw w at q))
      half v ev x true o =
          let k : Out CardLink = card_reply v.link a [] in
          let y : FineOut k = reply_fine v.link a [] x.last ha in
          let u : Out CardLink = record { link = k.link; sent = k.sent; told = k.told; buffer = v.buffer } in
          let z : Out ReaderLink = reader_block e.reader (verdict e.reader.own k.sent) m e.up in
          let w = passed m a e (block_bytes b p) clean v u a z ev (rw (o, reply_out v.link a v.buffer)) refl in
          rw w (on k.link z v.buffer a y.last ha (hear_fine e.reader (verdict e.reader.own k.sent) m e.up t hm) (rw w at q))

      go : (v : Out CardLink) → card_block e.card (verdict e.card.own (block_bytes b p)) e.lent e.down ≡ v
          → Going (passes m a clean e (block_bytes b p)).ends (passes m a clean e (block_bytes b p)).next
      go v ev = half v ev (rw ev at (block_fine e.card b p e.lent e.down f l hl)) (owes v.link.phase) refl

  -- a run on rows is a run on bytes
  abbrev pub rows_of : Run → RowRun
  rows_of x = record { got = x.got; downs = map block_row x.downs; ups = map block_row x.ups; told = x.told; ends = wide c r x.ends }

  row_turn : (g : ℕ) (e : Ends) (t : Told) (f : List ℕ)
      → ((is_quiet (passes m a clean e f).told ≡ true → Going (passes m a clean e f).ends (passes m a clean e f).next)
      → row_exchange m a room g (wide c r (passes m a clean e f).ends) (passes m a clean e f).told (block_row (passes m a clean e f).next)
      ≡ rows_of (exchange m a (replicate g clean) (passes m a clean e f).ends (passes m a clean e f).told (passes m a clean e f).next))
      → (q : Bool) → is_quiet t ≡ q → (q ≡ true → Going e f)
      → row_exchange m a room (suc g) (wide c r e) t (block_row f) ≡ rows_of (exchange m a (replicate (suc g) clean) e t f)
  unfolding row_exchange exchange
  row_turn g e t f ih true q inv =
      let y : Going e f = inv refl in
      let w : row_passes m a room (wide c r e) (block_row f) ≡ rows (passes m a clean e f) = rw y.is (row_passed e y.block y.load y.fine y.bytes y.last y.lent y.talking) in
      rw (q, w, ih (λ k. rw y.is (goes_on_law e y.block y.load y.fine y.bytes y.last y.lent y.talking (rw y.is at k))))
  row_turn g e t f ih false q inv = rw q

  pub row_run : (g : ℕ) (e : Ends) (t : Told) (f : List ℕ) → (is_quiet t ≡ true → Going e f)
      → row_exchange m a room g (wide c r e) t (block_row f) ≡ rows_of (exchange m a (replicate g clean) e t f)
  unfolding row_exchange exchange
  row_run zero e t f inv = refl
  row_run (suc g) e t f inv =
      row_turn g e t f (row_run g (passes m a clean e f).ends (passes m a clean e f).told (passes m a clean e f).next) (is_quiet t) refl inv

  -- .. from the host's message on
  row_talk_law : (g : ℕ) (e : Ends) → is_open e.reader.phase ≡ true → Fine e.card.last → Bytes e.lent
      → row_talk m a room g (wide c r e) ≡ rows_of (talk m a (replicate g clean) e)
  unfolding row_talk talk linking
  row_talk_law g e o l hl =
      let k : Out ReaderLink = reader_send e.reader m [] in
      let x : FineSent k = send_fine e.reader m [] hm in
      rw (linked_open r e.reader.phase e.reader o, send_block (record { reader = r; link = Linked e.reader }) e.reader room refl h m o, send_out e.reader m e.up)
      (row_run g (record { reader = k.link; card = e.card; down = e.down; up = e.up; lent = e.lent }) k.told k.sent
      (λ q. record { block = x.block; load = x.load; is = x.is; fine = x.fine; bytes = x.bytes; last = l; lent = hl; talking = quiet_talks k.told k.link.phase x.goes q }))

  -- Demand 2 on rows, between messages
  wide_exchanged : (j k g : ℕ) (e : Ends) → length m ≤ message_max → length a ≤ message_max → length m ≤ length e.down → length a ≤ length e.up
      → fewest k (length m) + fewest j (length a) ≤ suc g → Between j k e → Bytes e.lent → RowExchanged j k m a (wide c r e) (row_talk m a room g (wide c r e))
  wide_exchanged j k g e lm la ld lu q b hl =
      let y : Run = talk m a (replicate g clean) e in
      let x : Exchanged j k m a e y = exchanged_in j k m a e lm la ld lu b g q in
      let z : Between j k y.ends = x.answered.between in
      let o : is_open e.reader.phase ≡ true = ap (λ z. is_open z.phase) b.reader in
      let o' : is_open y.ends.reader.phase ≡ true = ap (λ z. is_open z.phase) z.reader in
      let w = linked_open r e.reader.phase e.reader o in
      let w' = linked_open r y.ends.reader.phase y.ends.reader o' in
      let number : number_in (linked r e.reader.phase e.reader).link ≡ e.reader.number = ap (λ x. number_in x.link) w in
      rw (row_talk_law g e o b.last hl)
      (record {
        got = x.answered.got;
        told = x.answered.told;
        down = x.down;
        up = x.answered.up;
        down_bytes = y.downs;
        up_bytes = y.ups;
        downs = refl;
        ups = refl;
        down_blocks = x.downs ∙ ap (λ n. cut k n m) (sym number);
        up_blocks = x.ups ∙ ap (λ n. cut j (last_number k n m) a) (sym number);
        ready = record { links = y.ends; reader = ap (λ x. x.link) w'; card = refl; index = i; protocol = s; between = z };
        lent = x.answered.lent;
        same_reader_law = ap (λ x. x.reader) w' ∙ sym (ap (λ x. x.reader) w);
        same_card = refl;
      })

-- Demand 2: within its terms an exchange, in any number of rounds that is enough
pub row_exchanged : (i j room : ℕ) (m a : List ℕ) (rounds : ℕ) (e : RowEnds) → row_room ≤ room → Bytes m → Bytes a → Bytes e.lent
    → Terms i j m a rounds e → RowExchanged i j m a e (row_talk m a room rounds e)
row_exchanged i j room m a rounds e h hm ha hl t =
    let k : Ends = t.ends.links in
    let b : Between i j k = t.ends.between in
    let l : Ends = record { reader = k.reader; card = k.card; down = e.down; up = e.up; lent = e.lent } in
    let y : Between i j l =
    record { reader = b.reader; number = b.number; phase = b.phase; joined = b.joined; own = b.own; other = b.other; last = b.last } in
    let w = linked_open e.reader.reader k.reader.phase k.reader (ap (λ z. is_open z.phase) b.reader) in
    let x : wide e.card.card e.reader.reader l ≡ e =
    λ q. record {
      reader = (w ∙ sym (ap (λ (z : Link). record { reader = e.reader.reader; link = z }) t.ends.reader)) q;
      card = record { card = e.card.card; link = sym t.ends.card q };
      down = e.down;
      up = e.up;
      lent = e.lent;
    } in
    rw x at (wide_exchanged e.card.card t.ends.index t.ends.protocol e.reader.reader room h m a hm ha i j rounds l t.message t.answer t.down t.up t.enough y hl)

-- .. and each message went in the fewest blocks
pub fewest_blocks : (i j : ℕ) (m a : List ℕ) (e : RowEnds) (r : RowRun) (x : RowExchanged i j m a e r)
    → (length (i_blocks x.down_bytes) ≡ fewest j (length m)) × (length (i_blocks x.up_bytes) ≡ fewest i (length a))
fewest_blocks i j m a e r x =
    let n : Bool = number_in e.reader.link in
    (ap length x.down_blocks ∙ cut_count j n m, ap length x.up_blocks ∙ cut_count i (last_number j n m) a)

-- right after RATS and ATS both ends are between messages: a reader of size index i, a card of size index j
pub after_ats_between : (i j k : ℕ) (e : RowEnds) → e.reader.link ≡ Linked (reader_open i j false) → e.card.link ≡ card_open j i → e.card.card.state ≡ Protocol k → RowBetween i j e
after_ats_between i j k e r c s =
    record {
      links = record { reader = reader_open i j false; card = card_open j i; down = []; up = []; lent = [] };
      reader = r;
      card = c;
      index = k;
      protocol = s;
      between = after_ats_law i j [] [];
    }
