-- T-11 on rows and the whole ends: both claims, over any start between messages. A lossy run on rows is a lossy run on bytes. Assumes nothing.
use Rattle.std.specs.Prelude.{◌≡◌, Bool, true, false, cond, ℕ, ◌≤◌, length}
use Rattle.std.proofs.Math.Path.{refl, ap}
use Rattle.std.proofs.Common.{sym, ◌∙◌}
use mathlib.Core.List.{List, [], ◌∷◌, map}
use native.Mathlib.Omega.{arith}
use Rattle.std.proofs.lemmas.List.{length-map}
use Rattle.rows.specs.Rows.{Bytes, All}
use Rattle.card.specs.declared.Card.{Card}
use Rattle.card.specs.declared.CardState.TheVariants.{Protocol}
use Rattle.reader.specs.declared.Reader.{Reader}
use Rattle.block.specs.declared.Block.{Block}
use Rattle.block.specs.declared.Block.TheVariants.{I, Ack, Nak, Wtx}
use Rattle.block.specs.declared.Told.{Told}
use Rattle.block.specs.declared.Told.TheVariants.{Quiet}
use Rattle.limits.specs.Limits.{message_max, row_room}
use Rattle.block.specs.Cut.{part, follows}
use Rattle.block.specs.Block.{block_bytes}
use Rattle.block.specs.Out.{Out}
use Rattle.block.specs.Row.{block_row}
use Rattle.card_blocks.specs.declared.CardLink.{CardLink}
use Rattle.card_blocks.specs.CardRules.{owes}
use Rattle.card_blocks.specs.CardFrames.{card_block, card_reply, card_wtx}
use Rattle.card_link.specs.declared.LinkCard.{LinkCard}
use Rattle.card_link.specs.CardCalls.{owing, take_call}
use Rattle.card_link.specs.StayLaws.{left_stays}
use Rattle.card_link.specs.CardRowLaws.{reply_block}
use Rattle.reader_blocks.specs.declared.Turn.{Turn}
use Rattle.reader_blocks.specs.declared.Turn.TheVariants.{Sending, Awaiting, Joining}
use Rattle.reader_blocks.specs.declared.ReaderLink.{ReaderLink}
use Rattle.reader_blocks.specs.ReaderRules.{is_open, asks_again}
use Rattle.reader_blocks.specs.ReaderFrames.{reader_block, reader_send}
use Rattle.reader_link.specs.declared.Link.{Link}
use Rattle.reader_link.specs.declared.Link.TheVariants.{Linked}
use Rattle.reader_link.specs.declared.LinkAnswer.TheVariants.{Blocks}
use Rattle.reader_link.specs.ReaderCalls.{linked, linking, hear_call, send_call}
use Rattle.reader_link.specs.ReaderRowLaws.{send_block}
use Rattle.exchange.specs.Exchange.{Act, Answers, Asks, Waits, Round, Ends, carried, acts, Passed, passes, Run, exchange, talk, is_quiet, Fine, Between}
use Rattle.exchange.specs.StepLaws.{reader_start}
use Rattle.exchange.proofs.ExchangeLaws.{passed, exchange_over}
use Rattle.exchange.specs.FineLaws.{fine_bytes, part_bytes_law, talks}
use Rattle.exchange.specs.RowExchange.{RowEnds, RowPassed, RowRun, row_over, RowBetween}
use Rattle.exchange.proofs.RowExchangeLaws.{linked_talks, linked_open, talks_awaits, wide, FineOut, reply_fine, reply_out}
use Rattle.lost_blocks.specs.Lost.{Brought, Safe, marks, marks_of, Prompt, FewLosses}
use Rattle.lost_blocks.proofs.Places.{Stage, Fresh, Acked, Owed, Asked, Shown, Joined, Place, place, Case, card_of, lent_of, ends_of, frame_of, OkAt}
use Rattle.lost_blocks.proofs.RoundLaws.{Outcome, on, stop, round}
use Rattle.lost_blocks.proofs.LostLaws.{ending_map, first, begins, ends_first, safe, brought}
use Rattle.exchange.specs.Lossy.{Passage, heard_as, RowRound, row_acts, lossy_passes, lossy_exchange, lossy_talk}
use Rattle.lost_blocks.specs.RowLost.{noticed, Noticed, RowStart, RowBrought, RowSafe, row_marks, row_marks_of, RowFewLosses, LostBlocks}
use Rattle.lost_blocks.proofs.RowLossLaws.{fate_of, round_of, carried_row, spoilt_fails, spoilt_sent, take_row, ask_block, hear_row, heard_fine, carried_fine, ask_fine, ask_out}

-- a frame that goes from an end in an exchange
pub record Frame (f : List ℕ) : Type 0 where
  pub block : Block
  pub load : List ℕ
  pub is : f ≡ block_bytes block load
  pub fine : Fine block
  pub bytes : Bytes load

-- a run is over when the reader's host has been told something
lossy_over : (m a : List ℕ) (room : ℕ) (xs : List RowRound) (e : RowEnds) (t : Told) (f : List ℕ) → is_quiet t ≡ false → lossy_exchange m a room xs e t f ≡ row_over t e
unfolding lossy_exchange
lossy_over m a room [] e t f h = refl
lossy_over m a room (x ∷ xs) e t f h = rw h

row_marks_over : (m a : List ℕ) (room : ℕ) (xs : List RowRound) (e : RowEnds) (t : Told) (f : List ℕ) → is_quiet t ≡ false → row_marks m a room xs e t f ≡ []
unfolding row_marks
row_marks_over m a room [] e t f h = refl
row_marks_over m a room (x ∷ xs) e t f h = rw h

marks_over : (m a : List ℕ) (xs : List Round) (e : Ends) (t : Told) (f : List ℕ) → is_quiet t ≡ false → marks m a xs e t f ≡ []
unfolding marks
marks_over m a [] e t f h = refl
marks_over m a (x ∷ xs) e t f h = rw h

module _ (c : Card) (ix : ℕ) (s : c.state ≡ Protocol ix) (r : Reader) (room : ℕ) (h : row_room ≤ room) (m a : List ℕ) (hm : Bytes m) (ha : Bytes a) where
  abbrev row_out : Out CardLink → Out LinkCard
  row_out v = record { link = record { card = c; link = v.link }; sent = block_row v.sent; told = v.told; buffer = v.buffer }

  abbrev rows : Passed → RowPassed
  rows p = record { got = p.got; reply = block_row p.reply; ends = wide c r p.ends; told = p.told; next = block_row p.next }

  abbrev pub rows_of : Run → RowRun
  rows_of x = record { got = x.got; downs = map block_row x.downs; ups = map block_row x.ups; told = x.told; ends = wide c r x.ends }

  -- what the reader does with what it hears of the card's row
  reader_hears_law : (e : Ends) (y : Passage) (b : List ℕ) → Bytes b → noticed e.reader.own y ≡ true → talks e.reader.phase ≡ true
      → (o : Out ReaderLink) → reader_block e.reader (carried (fate_of e.reader.own y) e.reader.own b) m e.up ≡ o
      → hear_call (linked r e.reader.phase e.reader) (heard_as y (block_row b)) m e.up room
      ≡ record { turn = record { reader = linked r o.link.phase o.link; answer = Blocks (length (block_row o.sent)) o.told }; sent = block_row o.sent; buffer = o.buffer }
  unfolding linking
  reader_hears_law e y b hb n t o eo =
      rw (linked_talks r e.reader.phase e.reader t, ← eo, ← carried_row e.reader.own y b hb n)
      (hear_row (record { reader = r; link = Linked e.reader }) e.reader room refl h (heard_as y (block_row b)) m e.up (talks_awaits e.reader.phase t))

  -- a round on rows, from what the card and its host do in it
  finish : (e : Ends) (f : List ℕ) (x : RowRound) (v : Out CardLink) (k : CardLink) (b : List ℕ) (qt wt : Told) (wb l : List ℕ)
      → card_block e.card (carried (fate_of e.card.own x.down) e.card.own f) e.lent e.down ≡ v
      → take_call (record { card = c; link = e.card }) (heard_as x.down (block_row f)) e.lent e.down room ≡ row_out v
      → ◌≡◌ {A = Out CardLink × List ℕ} (cond (owes v.link.phase) (acts x.host v a e.lent) (v, e.lent)) (record { link = k; sent = b; told = qt; buffer = v.buffer }, l)
      → ◌≡◌ {A = Out LinkCard × List ℕ} (cond (owing (row_out v).link) (row_acts x.host (row_out v) a e.lent room) (row_out v, e.lent))
      (record { link = record { card = c; link = k }; sent = block_row b; told = wt; buffer = wb }, l)
      → Bytes b → noticed e.reader.own x.up ≡ true → talks e.reader.phase ≡ true
      → lossy_passes m a room x (wide c r e) (block_row f) ≡ rows (passes m a (round_of e.reader.own e.card.own x) e f)
  unfolding lossy_passes
  finish e f x v k b qt wt wb l ec et eh ew hb n t =
      let z : Out ReaderLink = reader_block e.reader (carried (fate_of e.reader.own x.up) e.reader.own b) m e.up in
      rw (
        passed m a e f (round_of e.reader.own e.card.own x) v (record { link = k; sent = b; told = qt; buffer = v.buffer }) l z ec eh refl,
        et,
        ew,
        reader_hears_law e x.up b hb n t z refl,
      )

  row_passed : (e : Ends) (f : List ℕ) (x : RowRound) → Frame f → Fine e.card.last → Bytes e.lent → talks e.reader.phase ≡ true
      → noticed e.card.own x.down ≡ true → noticed e.reader.own x.up ≡ true
      → lossy_passes m a room x (wide c r e) (block_row f) ≡ rows (passes m a (round_of e.reader.own e.card.own x) e f)
  row_passed e f x fr fl hl t nd nu = go (owes v.link.phase) refl x.host refl
    where
      v : Out CardLink
      v = card_block e.card (carried (fate_of e.card.own x.down) e.card.own f) e.lent e.down

      fv : FineOut v
      fv = heard_fine e.card (carried (fate_of e.card.own x.down) e.card.own f) e.lent e.down
          (rw fr.is (carried_fine (fate_of e.card.own x.down) e.card.own fr.block fr.load fr.fine)) fl hl

      et : take_call (record { card = c; link = e.card }) (heard_as x.down (block_row f)) e.lent e.down room ≡ row_out v
      et = take_row (record { card = c; link = e.card }) ix room s h (heard_as x.down (block_row f)) e.lent e.down
          ∙ rw (carried_row e.card.own x.down f (rw fr.is (fine_bytes fr.block fr.load fr.fine fr.bytes)) nd, left_stays v.told c v.link fv.stays)

      go : (o : Bool) → owes v.link.phase ≡ o → (hs : Act) → x.host ≡ hs
          → lossy_passes m a room x (wide c r e) (block_row f) ≡ rows (passes m a (round_of e.reader.own e.card.own x) e f)
      go false o hs eh =
          let w : owing (row_out v).link ≡ false = rw (s, o) in
          finish e f x v v.link v.sent v.told v.told v.buffer e.lent refl et (rw o) (rw w) fv.sent nu t
      go true o Answers eh =
          let w : owing (row_out v).link ≡ true = rw (s, o) in
          let k : Out CardLink = card_reply v.link a [] in
          let y : FineOut k = reply_fine v.link a [] fv.last ha in
          finish e f x v k.link k.sent k.told k.told k.buffer a refl et (rw (o, eh, reply_out v.link a v.buffer))
          (rw (w, eh, reply_block (row_out v).link ix room s h a o, left_stays k.told c k.link y.stays)) y.sent nu t
      go true o (Asks n) eh =
          let w : owing (row_out v).link ≡ true = rw (s, o) in
          let k : Out CardLink = card_wtx v.link n [] in
          let y : FineOut k = ask_fine v.link n [] fv.last in
          finish e f x v k.link k.sent k.told k.told k.buffer e.lent refl et (rw (o, eh, ask_out v.link n v.buffer))
          (rw (w, eh, ask_block (row_out v).link ix room s h n o, left_stays k.told c k.link y.stays)) y.sent nu t
      go true o Waits eh =
          let w : owing (row_out v).link ≡ true = rw (s, o) in
          finish e f x v v.link v.sent v.told v.told v.buffer e.lent refl et (rw (o, eh)) (rw (w, eh)) fv.sent nu t

  -- ---- from a place of the invariant on
  module _ (i j : ℕ) (d u lent : List ℕ) (hl : Bytes lent) (lm : length m ≤ message_max) (la : length a ≤ message_max) where
    abbrev z : Case
    z = record { i = i; j = j; m = m; a = a; d = d; u = u; lent = lent }

    asks_frame : (t : Turn) (n : Bool) → Frame (block_bytes (asks_again t n) [])
    asks_frame Sending n = record { block = Nak n; load = []; is = refl; fine = tt; bytes = tt }
    asks_frame Awaiting n = record { block = Nak n; load = []; is = refl; fine = tt; bytes = tt }
    asks_frame Joining n = record { block = Ack n; load = []; is = refl; fine = tt; bytes = tt }

    frame_at : (p : Place) → OkAt z p → Frame (frame_of z p)
    frame_at (place n at again rep (Fresh last k) true) ok = record { block = I n (follows j at (length m)); load = part j at m; is = refl; fine = tt; bytes = part_bytes_law j at m hm }
    frame_at (place n at again rep (Fresh last k) false) ok = asks_frame Sending n
    frame_at (place n at again rep Acked own) ok = asks_frame Sending n
    frame_at (place n at again rep Owed own) ok = asks_frame Sending n
    frame_at (place n at again rep (Asked v) true) ok = record { block = Wtx v; load = []; is = refl; fine = omega (arith, ok.2); bytes = tt }
    frame_at (place n at again rep (Asked v) false) ok = asks_frame Sending n
    frame_at (place n at again rep (Shown t k) own) ok = asks_frame t n
    frame_at (place n at again rep (Joined k) own) ok = asks_frame Joining n

    last_at : (p : Place) → OkAt z p → Fine (ends_of z p).card.last
    last_at (place n at again rep (Fresh last k) own) ok = ok.2
    last_at (place n at again rep Acked own) ok = tt
    last_at (place n at again rep Owed own) ok = tt
    last_at (place n at again rep (Asked v) own) ok = omega (arith, ok.2)
    last_at (place n at again rep (Shown t k) own) ok = tt
    last_at (place n at again rep (Joined k) own) ok = tt

    lent_at : (g : Stage) → Bytes (lent_of z g)
    lent_at (Fresh last k) = hl
    lent_at Acked = hl
    lent_at Owed = hl
    lent_at (Asked v) = hl
    lent_at (Shown t k) = ha
    lent_at (Joined k) = ha

    own_at : (n : Bool) (at : ℕ) (g : Stage) → (card_of z n at g).own ≡ j
    own_at n at (Fresh last k) = refl
    own_at n at Acked = refl
    own_at n at Owed = refl
    own_at n at (Asked v) = refl
    own_at n at (Shown t k) = refl
    own_at n at (Joined k) = refl

    -- a round on rows is a round on bytes
    row_round : (x : RowRound) (p : Place) → OkAt z p → noticed j x.down ≡ true → noticed i x.up ≡ true
        → lossy_passes m a room x (wide c r (ends_of z p)) (block_row (frame_of z p)) ≡ rows (passes m a (round_of i j x) (ends_of z p) (frame_of z p))
    row_round x (place n at again rep g own) ok nd nu =
        let p : Place = place n at again rep g own in
        rw (own_at n at g) at (row_passed (ends_of z p) (frame_of z p) x (frame_at p ok) (last_at p ok) (lent_at g) refl (rw (own_at n at g) nd) nu)

    abbrev rounds : List RowRound → List Round
    rounds xs = map (round_of i j) xs

    -- .. and so is a run
    row_turn : (x : RowRound) (xs : List RowRound) → ((p : Place) → OkAt z p → lossy_exchange m a room xs (wide c r (ends_of z p)) Quiet (block_row (frame_of z p)) ≡ rows_of (exchange m a (rounds xs) (ends_of z p) Quiet (frame_of z p)))
        → (p : Place) → lossy_passes m a room x (wide c r (ends_of z p)) (block_row (frame_of z p)) ≡ rows (passes m a (round_of i j x) (ends_of z p) (frame_of z p)) → Outcome z p (round_of i j x)
        → lossy_exchange m a room (x ∷ xs) (wide c r (ends_of z p)) Quiet (block_row (frame_of z p)) ≡ rows_of (exchange m a (rounds (x ∷ xs)) (ends_of z p) Quiet (frame_of z p))
    unfolding lossy_exchange exchange
    row_turn x xs ih p w (on p' times reply e ok ed cnt) = rw (w, e, ih p' ok)
    row_turn x xs ih p w (stop q times e t eg o en win) =
        rw (w, e, exchange_over m a (rounds xs) q.ends q.told q.next t, lossy_over m a room xs (wide c r q.ends) q.told (block_row q.next) t)

    row_run : (xs : List RowRound) → Noticed i j xs → (p : Place) → OkAt z p
        → lossy_exchange m a room xs (wide c r (ends_of z p)) Quiet (block_row (frame_of z p)) ≡ rows_of (exchange m a (rounds xs) (ends_of z p) Quiet (frame_of z p))
    unfolding lossy_exchange exchange
    row_run [] ns p ok = refl
    row_run (x ∷ xs) ns p ok =
        row_turn x xs (row_run xs ns.1) p (row_round x p ok ns.0.0 ns.0.1) (round z lm la (round_of i j x).down x.host (round_of i j x).up p ok)

    -- .. and what is counted of it is the same
    marks_turn : (x : RowRound) (xs : List RowRound) → ((p : Place) → OkAt z p → row_marks m a room xs (wide c r (ends_of z p)) Quiet (block_row (frame_of z p)) ≡ marks m a (rounds xs) (ends_of z p) Quiet (frame_of z p))
        → (n : Bool) (at again rep : ℕ) (g : Stage) (own : Bool)
        → lossy_passes m a room x (wide c r (ends_of z (place n at again rep g own))) (block_row (frame_of z (place n at again rep g own))) ≡ rows (passes m a (round_of i j x) (ends_of z (place n at again rep g own)) (frame_of z (place n at again rep g own)))
        → Outcome z (place n at again rep g own) (round_of i j x)
        → row_marks m a room (x ∷ xs) (wide c r (ends_of z (place n at again rep g own))) Quiet (block_row (frame_of z (place n at again rep g own))) ≡ marks m a (rounds (x ∷ xs)) (ends_of z (place n at again rep g own)) Quiet (frame_of z (place n at again rep g own))
    unfolding row_marks marks
    marks_turn x xs ih n at again rep g own w (on p' times reply e ok ed cnt) = rw (w, e, ih p' ok, spoilt_fails j x.down, spoilt_sent i x.up reply)
    marks_turn x xs ih n at again rep g own w (stop q times e t eg o en win) =
        rw (w, e, marks_over m a (rounds xs) q.ends q.told q.next t, row_marks_over m a room xs (wide c r q.ends) q.told (block_row q.next) t, spoilt_fails j x.down, spoilt_sent i x.up q.reply)

    marks_run : (xs : List RowRound) → Noticed i j xs → (p : Place) → OkAt z p → row_marks m a room xs (wide c r (ends_of z p)) Quiet (block_row (frame_of z p)) ≡ marks m a (rounds xs) (ends_of z p) Quiet (frame_of z p)
    unfolding row_marks marks
    marks_run [] ns p ok = refl
    marks_run (x ∷ xs) ns (place n at again rep g own) ok =
        marks_turn x xs (marks_run xs ns.1) n at again rep g own (row_round x (place n at again rep g own) ok ns.0.0 ns.0.1)
        (round z lm la (round_of i j x).down x.host (round_of i j x).up (place n at again rep g own) ok)

  -- ---- from a state between messages on
  module _ (i j : ℕ) (l : Ends) (hl : Bytes l.lent) (lm : length m ≤ message_max) (la : length a ≤ message_max) (bt : Between i j l) (xs : List RowRound) (ns : Noticed i j xs) where
    abbrev bytes_rounds : List Round
    bytes_rounds = map (round_of i j) xs

    abbrev start : Case
    start = record { i = i; j = j; m = m; a = a; d = l.down; u = l.up; lent = l.lent }

    abbrev one : Place
    one = first i j m a bytes_rounds l lm la bt

    sent_first : reader_send l.reader m [] ≡ record { link = (ends_of start one).reader; sent = frame_of start one; told = Quiet; buffer = [] }
    sent_first = ap (λ k. reader_send k m []) bt.reader ∙ reader_start i j l.reader.number m [] lm

    opens : send_call (linked r l.reader.phase l.reader) m room ≡ linking r (reader_send l.reader m [])
    opens =
        let o : is_open l.reader.phase ≡ true = ap (λ k. is_open k.phase) bt.reader in
        rw (linked_open r l.reader.phase l.reader o) (send_block (record { reader = r; link = Linked l.reader }) l.reader room refl h m o)

    talk_rows : lossy_talk m a room xs (wide c r l) ≡ rows_of (talk m a bytes_rounds l)
    unfolding lossy_talk talk linking
    talk_rows =
        rw (opens, sent_first, begins i j m a bytes_rounds l lm la bt)
        (ap (λ e. lossy_exchange m a room xs (wide c r e) Quiet (block_row (frame_of start one))) (ends_first i j m a bytes_rounds l lm la bt)
        ∙ row_run i j l.down l.up l.lent hl lm la xs ns one (omega arith, omega arith, bt.last)
        ∙ ap (λ e. rows_of (exchange m a bytes_rounds e Quiet (frame_of start one))) (sym (ends_first i j m a bytes_rounds l lm la bt)))

    marks_rows : row_marks_of m a room xs (wide c r l) ≡ marks_of m a bytes_rounds l
    unfolding row_marks_of marks_of linking
    marks_rows =
        rw (opens, sent_first, begins i j m a bytes_rounds l lm la bt)
        (ap (λ e. row_marks m a room xs (wide c r e) Quiet (block_row (frame_of start one))) (ends_first i j m a bytes_rounds l lm la bt)
        ∙ marks_run i j l.down l.up l.lent hl lm la xs ns one (omega arith, omega arith, bt.last)
        ∙ ap (λ e. marks m a bytes_rounds e Quiet (frame_of start one)) (sym (ends_first i j m a bytes_rounds l lm la bt)))

    lifted : Brought i j m a l (talk m a bytes_rounds l) → RowBrought i j m a (wide c r l) (rows_of (talk m a bytes_rounds l))
    lifted x =
        let e : Ends = (talk m a bytes_rounds l).ends in
        let o : is_open e.reader.phase ≡ true = ap (λ k. is_open k.phase) x.answered.between.reader in
        record {
          got = x.answered.got;
          told = x.answered.told;
          down = x.down;
          up = x.answered.up;
          lent = x.answered.lent;
          ready = record { links = e; reader = ap (λ k. k.link) (linked_open r e.reader.phase e.reader o); card = refl; index = ix; protocol = s; between = x.answered.between };
        }

    wide_safe : RowSafe i j m a (wide c r l) (lossy_talk m a room xs (wide c r l))
    wide_safe =
        let x : Safe i j m a l (talk m a bytes_rounds l) = safe i j m a bytes_rounds l lm la bt in
        rw talk_rows (record { times = x.times; once = x.once; got = x.got; end = ending_map lifted (talk m a bytes_rounds l).told x.end })

    -- the terms of the second claim on rows are those on bytes
    pub few_rows : FewLosses i j m a bytes_rounds l → All (λ x. x.host ≡ Answers) xs → RowFewLosses i j m a room xs (wide c r l)
    few_rows t p =
        record { prompt = p; down = t.down; up = t.up; few = rw marks_rows t.few; enough = rw marks_rows (rw length-map at t.enough) }

    wide_brought : RowFewLosses i j m a room xs (wide c r l) → RowBrought i j m a (wide c r l) (lossy_talk m a room xs (wide c r l))
    wide_brought t =
        rw talk_rows
        (lifted (brought i j m a bytes_rounds l lm la bt
        (record { prompt = prompts xs t.prompt; down = t.down; up = t.up; few = rw marks_rows at t.few; enough = rw length-map (rw marks_rows at t.enough) })))
      where
        prompts : (ys : List RowRound) → All (λ y. y.host ≡ Answers) ys → Prompt (map (round_of i j) ys)
        prompts [] p = tt
        prompts (y ∷ ys) p = (p.0, prompts ys p.1)

-- both links of ends between messages
module _ (i j : ℕ) (e : RowEnds) (b : RowBetween i j e) where
  abbrev links_of : Ends
  links_of = record { reader = b.links.reader; card = b.links.card; down = e.down; up = e.up; lent = e.lent }

  links_between : Between i j links_of
  links_between =
      let x : Between i j b.links = b.between in
      record { reader = x.reader; number = x.number; phase = x.phase; joined = x.joined; own = x.own; other = x.other; last = x.last }

  links_wide : wide e.card.card e.reader.reader links_of ≡ e
  links_wide =
      let w = linked_open e.reader.reader b.links.reader.phase b.links.reader (ap (λ k. is_open k.phase) b.between.reader) in
      λ q. record {
        reader = (w ∙ sym (ap (λ (k : Link). record { reader = e.reader.reader; link = k }) b.reader)) q;
        card = record { card = e.card.card; link = sym b.card q };
        down = e.down;
        up = e.up;
        lent = e.lent;
      }

-- T-11
pub lost_blocks : (i j room : ℕ) (m a : List ℕ) (xs : List RowRound) (e : RowEnds) → row_room ≤ room → Bytes m → Bytes a → Bytes e.lent
    → RowStart i j m a xs e → LostBlocks i j m a room xs e (lossy_talk m a room xs e)
lost_blocks i j room m a xs e h hm ha hl t =
    let b : RowBetween i j e = t.ends in
    let w = links_wide i j e b in
    let c : Card = e.card.card in
    let r : Reader = e.reader.reader in
    let l : Ends = links_of i j e b in
    let lb : Between i j l = links_between i j e b in
    record {
      safe = rw w at (wide_safe c b.index b.protocol r room h m a hm ha i j l hl t.message t.answer lb xs t.damage);
      brought = λ k. rw w at (wide_brought c b.index b.protocol r room h m a hm ha i j l hl t.message t.answer lb xs t.damage (rw w k));
    }
