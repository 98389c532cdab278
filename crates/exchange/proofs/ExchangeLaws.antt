-- Demand 2 on these definitions: over a channel without errors the message and the answer come through. Assumes nothing.
use Rattle.std.specs.Prelude.{◌≡◌, not, take, replicate}
use Rattle.std.proofs.Math.Path.{refl, sym, ap}
use Rattle.std.proofs.Common.{◌∙◌, zero-add, take_all}
use Rattle.std.proofs.Math.Bool.{Bool, true, false, cond, not-not}
use mathlib.Core.List.{List, [], ◌∷◌, ◌++◌}
use Prim.Native.Nat.{ℕ, zero, suc, ◌+◌, ◌-◌, ◌≤◌, ◌<◌}
use Rattle.std.proofs.Math.Nat.{sub-zero}
use native.Mathlib.Omega.{arith}
use Rattle.std.proofs.Math.ListN.{length}
use Rattle.std.proofs.Math.Seq.{length-take-le}
use borrow.Author.Tests.{ltb-true, ltb-false}
use Rattle.block.specs.declared.Block.{Block}
use Rattle.block.specs.declared.Block.TheVariants.{I, Ack, Nothing}
use Rattle.block.specs.declared.Told.{Told}
use Rattle.block.specs.declared.Told.TheVariants.{Quiet, Message}
use Rattle.card_blocks.specs.declared.CardPhase.TheVariants.{Receiving, Owing, Answering}
use Rattle.card_blocks.specs.declared.CardLink.{CardLink}
use Rattle.reader_blocks.specs.declared.ReaderLink.{ReaderLink}
use Rattle.reader_blocks.specs.declared.Turn.{Turn}
use Rattle.reader_blocks.specs.declared.Turn.TheVariants.{Sending, Awaiting, Joining}
use Rattle.rows.specs.Rows.{overlay}
use Rattle.rows.proofs.RowLaws.{overlay_nil, overlay_next, overlay_front, length_overlay}
use Rattle.limits.specs.Limits.{message_max}
use Rattle.block.specs.Cut.{payload_max, follows, part, fewest, cut_from, cut, toggled, last_number}
use Rattle.block.specs.Out.{Out}
use Rattle.block.specs.Block.{kind, block_of, is_i, verdict, block_bytes}
use Rattle.block.specs.CutLaws.{fewest_last, fewest_next, fewest_some, fewest_most, part_full, part_fits, part_rest, part_in, take_part}
use Rattle.card_blocks.specs.CardRules.{card_open, owes}
use Rattle.card_blocks.specs.CardFrames.{card_block}
use Rattle.reader_blocks.specs.ReaderRules.{last_is_out, reader_open}
use Rattle.reader_blocks.specs.ReaderFrames.{reader_block, reader_send}
use Rattle.exchange.specs.Exchange.{Round, Answers, clean, Ends, carried, acts, delivered, passes, Run, is_quiet, over, exchange, talk, i_blocks, Between, Exchanged}
use Rattle.exchange.specs.StepLaws.{card, reader, card_chained, card_last, card_reply_law, card_acked, reader_start, reader_acked, reader_chained, reader_last}

-- what a run that is under way still brings: messages for the card's host, the I blocks each way, and the end
pub record Rest (i j : ℕ) (a : List ℕ) (got : List (List ℕ)) (down up : List ℕ) (x y : List (List ℕ)) (r : Run) : Type 0 where
  pub got_is : r.got ≡ got
  pub told_is : r.told ≡ Message (length a)
  pub down_is : r.ends.down ≡ down
  pub up_is : r.ends.up ≡ up
  pub downs_are : i_blocks r.downs ≡ x
  pub ups_are : i_blocks r.ups ≡ y
  pub lent_is : r.ends.lent ≡ a
  pub between_is : Between i j r.ends

-- when the reader's host has been told something the run is over
pub exchange_over : (m a : List ℕ) (xs : List Round) (e : Ends) (t : Told) (f : List ℕ) → is_quiet t ≡ false → exchange m a xs e t f ≡ over t e
unfolding exchange
exchange_over m a [] e t f h = refl
exchange_over m a (x ∷ xs) e t f h = rw h

-- one round: what the card does, then its host, then the reader
pub passed : (m a : List ℕ) (e : Ends) (f : List ℕ) (x : Round) (c h : Out CardLink) (l : List ℕ) (r : Out ReaderLink) → card_block e.card (carried x.down e.card.own f) e.lent e.down ≡ c
    → ◌≡◌ {A = Out CardLink × List ℕ} (cond (owes c.link.phase) (acts x.host c a e.lent) (c, e.lent)) (h, l)
    → reader_block e.reader (carried x.up e.reader.own h.sent) m e.up ≡ r
    → passes m a x e f ≡ record {
      got = delivered c.told c.buffer;
      reply = h.sent;
      told = r.told;
      next = r.sent;
      ends = record { reader = r.link; card = h.link; down = h.buffer; up = r.buffer; lent = l };
    }
unfolding passes
passed m a e f x c h l r ec eh er = rw (ec, eh, er)

-- one round without errors
module _ (m a : List ℕ) (e : Ends) (f : List ℕ) (c h : Out CardLink) (l : List ℕ) (r : Out ReaderLink) (ec : card_block e.card (verdict e.card.own f) e.lent e.down ≡ c)
    (eh : ◌≡◌ {A = Out CardLink × List ℕ} (cond (owes c.link.phase) (acts Answers c a e.lent) (c, e.lent)) (h, l))
    (er : reader_block e.reader (verdict e.reader.own h.sent) m e.up ≡ r) where
  tick : (i j : ℕ) (xs : List Round) (got : List (List ℕ)) (down up : List ℕ) (x y : List (List ℕ))
      → Rest i j a got down up x y (exchange m a xs (record { reader = r.link; card = h.link; down = h.buffer; up = r.buffer; lent = l }) r.told r.sent)
      → Rest i j a (delivered c.told c.buffer ++ got) down up (cond (is_i (block_of f)) (f ∷ x) x) (cond (is_i (block_of h.sent)) (h.sent ∷ y) y)
      (exchange m a (clean ∷ xs) e Quiet f)
  unfolding exchange i_blocks
  tick i j xs got down up x y k = rw (passed m a e f clean c h l r ec eh er) (record {
    got_is = ap (λ g. delivered c.told c.buffer ++ g) k.got_is;
    told_is = k.told_is;
    down_is = k.down_is;
    up_is = k.up_is;
    downs_are = ap (λ l. cond (is_i (block_of f)) (f ∷ l) l) k.downs_are;
    ups_are = ap (λ l. cond (is_i (block_of h.sent)) (h.sent ∷ l) l) k.ups_are;
    lent_is = k.lent_is;
    between_is = k.between_is;
  })

-- the bytes joined before a place, and the payload from there on
pub joined_next : (i at : ℕ) (m d : List ℕ) → at ≤ length m → at + length (part i at m) ≤ length d → overlay (overlay d 0 (take at m)) at (part i at m) ≡ overlay d 0 (take (at + payload_max i) m)
joined_next i at m d h g =
    let e : length (take at m) ≡ at = length-take-le at m h in
    rw (zero-add, e, take_part) at (overlay_next d 0 (take at m) (part i at m) (rw (zero-add, e) g))

pub joined_all : (i at : ℕ) (m d : List ℕ) → at ≤ length m → at + length (part i at m) ≤ length d → length m ≤ at + payload_max i → overlay (overlay d 0 (take at m)) at (part i at m) ≡ overlay d 0 m
joined_all i at m d h g l = rw (take_all (at + payload_max i) m l) at (joined_next i at m d h g)

-- an I block is one, an R(ACK) is not
is_i_law : (n b : Bool) (p : List ℕ) → is_i (block_of (block_bytes (I n b) p)) ≡ true
unfolding kind
is_i_law true true p = refl
is_i_law true false p = refl
is_i_law false true p = refl
is_i_law false false p = refl

is_ack : (n : Bool) → is_i (block_of (block_bytes (Ack n) [])) ≡ false
unfolding kind
is_ack true = refl
is_ack false = refl

-- the blocks into which a message is cut, from a place on: the last one; one after which more follow; the first
cut_last : (k i : ℕ) (n : Bool) (at : ℕ) (m : List ℕ) → k ≡ 0 → follows i at (length m) ≡ false → cut_from (suc k) i n at m ≡ block_bytes (I n false) (part i at m) ∷ []
unfolding cut_from
cut_last k i n at m z e = rw (z, e)

cut_more : (k i : ℕ) (n : Bool) (at : ℕ) (m : List ℕ) → follows i at (length m) ≡ true
    → cut_from (suc k) i n at m ≡ block_bytes (I n true) (part i at m) ∷ cut_from k i (not n) (at + payload_max i) m
unfolding cut_from
cut_more k i n at m e = rw e

cut_first : (k i : ℕ) (n : Bool) (m : List ℕ) → suc k ≡ fewest i (length m)
    → cut i n m ≡ block_bytes (I n (follows i 0 (length m))) (part i 0 m) ∷ cut_from k i (not n) (0 + payload_max i) m
unfolding cut cut_from
cut_first k i n m e = rw (← e)

pub owes_none : (b : Bool) → owes (cond b Answering Receiving) ≡ false
owes_none true = refl
owes_none false = refl

module _ (i j : ℕ) (m a d u : List ℕ) (ha : length a ≤ message_max) (hu : length a ≤ length u) where
  -- the card's last I is on its way to the reader
  up_last : (k g at ra : ℕ) (n : Bool) (t : Turn) → follows i at (length a) ≡ false → fewest i (length a - at) ≡ suc k → at ≤ length a → last_is_out t ≡ true
      → (r : Out ReaderLink) → reader_block (reader i j n t ra at 0 0) (verdict i (block_bytes (I n false) (part i at a))) m (overlay u 0 (take at a)) ≡ r
      → Rest i j a [] d (overlay u 0 a) [] (cut_from k i (not n) (at + payload_max i) a)
      (exchange m a (replicate g clean) (record { reader = r.link; card = card j i n Receiving (I n false) 0 at; down = d; up = r.buffer; lent = a }) r.told r.sent)
  unfolding follows i_blocks cut_from
  up_last k g at ra n t eb ek h et r er =
      let p : List ℕ = part i at a in
      let u₁ : List ℕ = overlay u 0 (take at a) in
      let l : length a ≤ at + payload_max i = ltb-false (at + payload_max i) (length a) eb in
      let full : at + length p ≡ length a = part_rest i at a h l in
      let one : k ≡ 0 = omega (arith, fewest_last i (length a - at) (omega arith)) in
      let len : length u₁ ≡ length u = length_overlay u 0 (take at a) (omega (arith, length-take-le at a h)) in
      let e : r ≡ record { link = reader_open i j (not n); sent = []; told = Message (at + length p); buffer = overlay u₁ at p } =
      sym er ∙ reader_last i j ra at 0 0 p m u₁ (part_fits i at a) (omega arith) (omega arith) t n et in
      rw (e, exchange_over m a (replicate g clean) (record { reader = reader_open i j (not n); card = card j i n Receiving (I n false) 0 at; down = d; up = overlay u₁ at p; lent = a }) (Message (at + length p)) [] refl)
      (record {
        got_is = refl;
        told_is = ap Message full;
        down_is = refl;
        up_is = joined_all i at a u h (omega (arith, part_in i at a h)) l;
        downs_are = refl;
        ups_are = rw one;
        lent_is = refl;
        between_is = record { reader = refl; number = sym (not-not n); phase = refl; joined = refl; own = refl; other = refl; last = tt };
      })

  -- the card's I of place at is on its way to the reader; k more follow it
  up_run : (k g at ra : ℕ) (n : Bool) (t : Turn) (b : Bool) → follows i at (length a) ≡ b → fewest i (length a - at) ≡ suc k → k ≤ g → at ≤ length a → last_is_out t ≡ true
      → (r : Out ReaderLink) → reader_block (reader i j n t ra at 0 0) (verdict i (block_bytes (I n b) (part i at a))) m (overlay u 0 (take at a)) ≡ r
      → Rest i j a [] d (overlay u 0 a) [] (cut_from k i (not n) (at + payload_max i) a)
      (exchange m a (replicate g clean) (record { reader = r.link; card = card j i n (cond b Answering Receiving) (I n b) 0 at; down = d; up = r.buffer; lent = a }) r.told r.sent)
  unfolding follows cut_from
  up_run zero g at ra n t false eb ek hk h et r er = up_last zero g at ra n t eb ek h et r er
  up_run (suc k) g at ra n t false eb ek hk h et r er = up_last (suc k) g at ra n t eb ek h et r er
  up_run zero g at ra n t true eb ek hk h et r er =
      absurd (omega (arith, fewest_next i (length a - at) (omega (arith, ltb-true (at + payload_max i) (length a) eb)), fewest_some i (length a - at - payload_max i)))
  up_run (suc k) zero at ra n t true eb ek hk h et r er = absurd (omega arith)
  up_run (suc k) (suc g) at ra n t true eb ek hk h et r er =
      let p : List ℕ = part i at a in
      let u₁ : List ℕ = overlay u 0 (take at a) in
      let at' : ℕ = at + payload_max i in
      let b' : Bool = follows i at' (length a) in
      let l : at' < length a = ltb-true (at + payload_max i) (length a) eb in
      let full : at + length p ≡ at' = omega (arith, part_full i at a (omega arith)) in
      let len : length u₁ ≡ length u = length_overlay u 0 (take at a) (omega (arith, length-take-le at a h)) in
      let left : length a - at - payload_max i ≡ length a - at' = omega arith in
      let next : fewest i (length a - at) ≡ suc (fewest i (length a - at')) = rw left at (fewest_next i (length a - at) (omega arith)) in
      let e : r ≡ record { link = reader i j (not n) Joining 0 at' 0 0; sent = block_bytes (Ack (not n)) []; told = Quiet; buffer = overlay u 0 (take at' a) } =
      rw (full, joined_next i at a u h (omega (arith, part_in i at a h))) at (sym er ∙ reader_chained i j ra at 0 0 p m u₁ (part_fits i at a) (omega arith) (omega arith) t n et) in
      let c : Out CardLink = record { link = card j i (not n) (cond b' Answering Receiving) (I (not n) b') 0 at'; sent = block_bytes (I (not n) b') (part i at' a); told = Quiet; buffer = d } in
      let s : Ends = record { reader = reader i j (not n) Joining 0 at' 0 0; card = card j i n Answering (I n true) 0 at; down = d; up = overlay u 0 (take at' a); lent = a } in
      let r' : Out ReaderLink = reader_block s.reader (verdict i c.sent) m s.up in
      rw e (rw (is_ack (not n), is_i_law (not n) b' (part i at' a)) at
      (tick m a s (block_bytes (Ack (not n)) []) c c a r' (card_acked j i (I n true) 0 at n a d (omega arith) ha) (rw (owes_none b') refl) refl i j (replicate g clean) [] d (overlay u 0 a) [] (cut_from k i (not (not n)) (at' + payload_max i) a)
      (up_run k g at' 0 (not n) Joining b' refl (omega arith) (omega arith) (omega arith) refl r' refl)))

module _ (i j : ℕ) (m a d u lent : List ℕ) (hm : length m ≤ message_max) (hd : length m ≤ length d) (ha : length a ≤ message_max) (hu : length a ≤ length u) where
  -- the reader's last I is on its way to the card, and with it the answer begins
  down_last : (k g at ca : ℕ) (n c : Bool) (last : Block) → c ≡ not n → follows j at (length m) ≡ false → fewest j (length m - at) ≡ suc k → k + fewest i (length a) ≤ suc g → at ≤ length m
      → Rest i j a (m ∷ []) (overlay d 0 m) (overlay u 0 a) (cut_from (suc k) j n at m) (cut i (toggled k n) a)
      (exchange m a (replicate (suc g) clean) (record { reader = reader i j n Awaiting at 0 0 0; card = card j i c Receiving last at ca; down = overlay d 0 (take at m); up = u; lent = lent })
      Quiet (block_bytes (I n false) (part j at m)))
  unfolding follows toggled
  down_last k g at ca n c last ec eb ek hg h =
      let p : List ℕ = part j at m in
      let d₁ : List ℕ = overlay d 0 (take at m) in
      let b' : Bool = follows i 0 (length a) in
      let ka : ℕ = fewest i (length a) - 1 in
      let l : length m ≤ at + payload_max j = ltb-false (at + payload_max j) (length m) eb in
      let full : at + length p ≡ length m = part_rest j at m h l in
      let one : k ≡ 0 = omega (arith, fewest_last j (length m - at) (omega arith)) in
      let len : length d₁ ≡ length d = length_overlay d 0 (take at m) (omega (arith, length-take-le at m h)) in
      let c₁ : Out CardLink = record { link = card j i n Owing Nothing 0 0; sent = []; told = Message (length m); buffer = overlay d 0 m } in
      let e₁ : card_block (card j i c Receiving last at ca) (verdict j (block_bytes (I n false) p)) lent d₁ ≡ c₁ =
      rw ec (rw (full, joined_all j at m d h (omega (arith, part_in j at m h)) l) at (card_last j i last ca at p lent d₁ (part_fits j at m) (omega arith) (omega arith) n)) in
      let h₁ : Out CardLink = record { link = card j i n (cond b' Answering Receiving) (I n b') 0 0; sent = block_bytes (I n b') (part i 0 a); told = Quiet; buffer = overlay d 0 m } in
      let s : Ends = record { reader = reader i j n Awaiting at 0 0 0; card = card j i c Receiving last at ca; down = d₁; up = u; lent = lent } in
      let r : Out ReaderLink = reader_block s.reader (verdict i h₁.sent) m u in
      let some : suc ka ≡ fewest i (length a) = omega (arith, fewest_some i (length a)) in
      rw (cut_last k j n at m one eb, one, cut_first ka i n a some) (rw (is_i_law n false p, is_i_law n b' (part i 0 a), overlay_front d m) at
      (tick m a s (block_bytes (I n false) p) c₁ h₁ a r e₁ (ap (λ o. (o, a)) (card_reply_law j i Nothing 0 0 n a (overlay d 0 m) ha)) refl i j (replicate g clean) [] (overlay d 0 m) (overlay u 0 a) [] (cut_from ka i (not n) (0 + payload_max i) a)
      (up_run i j m a (overlay d 0 m) u ha hu ka g 0 at n Awaiting b' refl (rw sub-zero (sym some)) (omega arith) (omega arith) refl r (rw (overlay_nil u 0) refl))))

  -- the reader's I of place at is on its way to the card; k more follow it
  down_run : (k g at ca : ℕ) (n c : Bool) (last : Block) (b : Bool) → c ≡ not n → follows j at (length m) ≡ b → fewest j (length m - at) ≡ suc k → k + fewest i (length a) ≤ g → at ≤ length m
      → Rest i j a (m ∷ []) (overlay d 0 m) (overlay u 0 a) (cut_from (suc k) j n at m) (cut i (toggled k n) a)
      (exchange m a (replicate g clean) (record { reader = reader i j n (cond b Sending Awaiting) at 0 0 0; card = card j i c Receiving last at ca; down = overlay d 0 (take at m); up = u; lent = lent })
      Quiet (block_bytes (I n b) (part j at m)))
  unfolding follows toggled
  down_run zero zero at ca n c last b ec eb ek hg h = absurd (omega (arith, fewest_some i (length a)))
  down_run (suc k) zero at ca n c last b ec eb ek hg h = absurd (omega arith)
  down_run zero (suc g) at ca n c last false ec eb ek hg h = down_last zero g at ca n c last ec eb ek hg h
  down_run (suc k) (suc g) at ca n c last false ec eb ek hg h = down_last (suc k) g at ca n c last ec eb ek hg h
  down_run zero (suc g) at ca n c last true ec eb ek hg h =
      absurd (omega (arith, fewest_next j (length m - at) (omega (arith, ltb-true (at + payload_max j) (length m) eb)), fewest_some j (length m - at - payload_max j)))
  down_run (suc k) (suc g) at ca n c last true ec eb ek hg h =
      let p : List ℕ = part j at m in
      let d₁ : List ℕ = overlay d 0 (take at m) in
      let at' : ℕ = at + payload_max j in
      let b' : Bool = follows j at' (length m) in
      let l : at' < length m = ltb-true (at + payload_max j) (length m) eb in
      let full : at + length p ≡ at' = omega (arith, part_full j at m (omega arith)) in
      let len : length d₁ ≡ length d = length_overlay d 0 (take at m) (omega (arith, length-take-le at m h)) in
      let left : length m - at - payload_max j ≡ length m - at' = omega arith in
      let next : fewest j (length m - at) ≡ suc (fewest j (length m - at')) = rw left at (fewest_next j (length m - at) (omega arith)) in
      let c₁ : Out CardLink = record { link = card j i n Receiving (Ack n) at' 0; sent = block_bytes (Ack n) []; told = Quiet; buffer = overlay d 0 (take at' m) } in
      let e₁ : card_block (card j i c Receiving last at ca) (verdict j (block_bytes (I n true) p)) lent d₁ ≡ c₁ =
      rw ec (rw (full, joined_next j at m d h (omega (arith, part_in j at m h))) at (card_chained j i last ca at p lent d₁ (part_fits j at m) (omega arith) (omega arith) n)) in
      let s : Ends = record { reader = reader i j n Sending at 0 0 0; card = card j i c Receiving last at ca; down = d₁; up = u; lent = lent } in
      let r : Out ReaderLink = record { link = reader i j (not n) (cond b' Sending Awaiting) at' 0 0 0; sent = block_bytes (I (not n) b') (part j at' m); told = Quiet; buffer = u } in
      rw (cut_more (suc k) j n at m eb) (rw (is_i_law n true p, is_ack n) at
      (tick m a s (block_bytes (I n true) p) c₁ c₁ lent r e₁ refl (reader_acked i j at 0 0 n m u (omega arith) hm) i j (replicate g clean) (m ∷ []) (overlay d 0 m) (overlay u 0 a) (cut_from (suc k) j (not n) at' m) (cut i (toggled k (not n)) a)
      (down_run k g at' 0 (not n) n (Ack n) b' (sym (not-not n)) refl (omega arith) (omega arith) (omega arith))))

module _ (i j : ℕ) (m a : List ℕ) (e : Ends) (hm : length m ≤ message_max) (ha : length a ≤ message_max) (hd : length m ≤ length e.down) (hu : length a ≤ length e.up) (b : Between i j e) where
  -- the same from a state between messages, in any number of rounds that is enough
  pub exchanged_in : (g : ℕ) → fewest j (length m) + fewest i (length a) ≤ suc g → Exchanged i j m a e (talk m a (replicate g clean) e)
  unfolding talk cut last_number
  exchanged_in g h =
      let n : Bool = e.reader.number in
      let k : ℕ = fewest j (length m) - 1 in
      let some : suc k ≡ fewest j (length m) = omega (arith, fewest_some j (length m)) in
      let es : reader_send e.reader m e.up ≡ record { link = reader i j n (cond (follows j 0 (length m)) Sending Awaiting) 0 0 0 0; sent = block_bytes (I n (follows j 0 (length m))) (part j 0 m); told = Quiet; buffer = e.up } =
      ap (λ r. reader_send r m e.up) b.reader ∙ reader_start i j n m e.up hm in
      let ec : e.card ≡ card j i (not n) Receiving e.card.last 0 e.card.at =
      λ t. record { own = b.own t; reader = b.other t; number = b.number t; phase = b.phase t; last = e.card.last; joined = b.joined t; at = e.card.at } in
      let x : Rest i j a (m ∷ []) (overlay e.down 0 m) (overlay e.up 0 a) (cut j n m) (cut i (last_number j n m) a) (talk m a (replicate g clean) e) =
      rw (es, ec) (rw (some, overlay_nil e.down 0) at (down_run i j m a e.down e.up e.lent hm hd ha hu k g 0 e.card.at n (not n) e.card.last (follows j 0 (length m))
      refl refl (rw sub-zero (sym some)) (omega arith) (omega arith))) in
      record { answered = record { got = x.got_is; told = x.told_is; up = x.up_is; lent = x.lent_is; between = x.between_is }; down = x.down_is; downs = x.downs_are; ups = x.ups_are }

  -- 631 rounds are always enough
  pub exchanged : Exchanged i j m a e (talk m a (replicate 631 clean) e)
  exchanged = exchanged_in 631 (omega (arith, fewest_most j (length m) hm, fewest_most i (length a) ha))

-- the ends after RATS and ATS are such a state
pub after_ats_law : (i j : ℕ) (d u : List ℕ) → Between i j (record { reader = reader_open i j false; card = card_open j i; down = d; up = u; lent = [] })
after_ats_law i j d u = record { reader = refl; number = refl; phase = refl; joined = refl; own = refl; other = refl; last = tt }
