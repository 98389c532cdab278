-- One round, whatever becomes of its frames, leads from a place of the invariant to a place, or ends the run as T-11 says. Assumes nothing.
use Rattle.std.specs.Prelude.{◌≡◌, Bool, false, cond, not, List, [], take, ltb}
use Rattle.std.proofs.Math.Path.{refl, sym, ap, ap₂}
use Rattle.std.proofs.Common.{◌∙◌, add-zero, length-take-le}
use Rattle.std.proofs.Math.Bool.{true, not-not}
use Rattle.std.proofs.lemmas.Bool.{false≢true}
use Rattle.std.specs.Bool.{beq as same}
use Prim.Native.Nat.{ℕ, suc, ◌+◌, ◌-◌, ◌*◌, ◌≤◌, ◌<◌}
use Rattle.std.proofs.Math.Nat.{sub-zero}
use native.Mathlib.Omega.{arith}
use Rattle.std.proofs.Math.ListN.{length, replicate}
use borrow.Author.Tests.{ltb-true, ltb-false}
use Rattle.rows.specs.Rows.{overlay}
use Rattle.rows.proofs.RowLaws.{overlay_nil, overlay_front, length_overlay}
use Rattle.refusal.specs.declared.Refusal.{Refusal}
use Rattle.refusal.specs.declared.Refusal.TheVariants.{Repeats, Forbidden, TooLong, NotDue, Silence, Argument}
use Rattle.block.specs.declared.Block.{Block}
use Rattle.block.specs.declared.Block.TheVariants.{I, Ack, Nak, Wtx, Nothing}
use Rattle.block.specs.declared.Told.{Told}
use Rattle.block.specs.declared.Told.TheVariants.{Quiet, Message, Granted, Refused}
use Rattle.card_blocks.specs.declared.CardPhase.TheVariants.{Receiving, Owing, Waiting, Answering}
use Rattle.card_blocks.specs.declared.CardLink.{CardLink}
use Rattle.reader_blocks.specs.declared.ReaderLink.{ReaderLink}
use Rattle.reader_blocks.specs.declared.ReaderPhase.TheVariants.{Stopped}
use Rattle.reader_blocks.specs.declared.Turn.{Turn}
use Rattle.reader_blocks.specs.declared.Turn.TheVariants.{Sending, Awaiting, Joining}
use Rattle.frame.specs.Frame.{Fault}
use Rattle.limits.specs.Limits.{message_max}
use Rattle.block.specs.Cut.{payload_max, follows, part, fewest, fits}
use Rattle.block.specs.Out.{Out}
use Rattle.block.specs.Block.{verdict, block_bytes, wtx_ok}
use Rattle.block.specs.CutLaws.{fewest_next, fewest_some, fits_true, fits_both, part_full, part_fits, part_rest, part_in}
use Rattle.card_blocks.specs.CardRules.{owes, card_sends}
use Rattle.card_blocks.specs.CardLaws.{lent_any, lent_fits}
use Rattle.card_blocks.specs.CardFrames.{card_block}
use Rattle.reader_blocks.specs.ReaderRules.{asks_again, reader_open, reader_done}
use Rattle.reader_blocks.specs.ReaderFrames.{reader_block}
use Rattle.exchange.specs.Exchange.{Fate, Arrives, Fails, Act, Answers, Asks, Waits, Round, Ends, carried, acts, delivered, Passed, passes, is_quiet, Between}
use Rattle.exchange.specs.Steps.{gives}
use Rattle.exchange.specs.StepLaws.{card, reader, card_chained, card_last, card_reply_law, reader_acked, reader_chained, reader_last}
use Rattle.exchange.proofs.ExchangeLaws.{passed, owes_none, joined_next, joined_all}
use Rattle.lost_blocks.specs.Lost.{Ending, most_lost, failed, failed_of}
use Rattle.lost_blocks.proofs.LossLaws.{card_fails, card_full, card_nak, card_again, card_next_law, card_owing, card_granted_law, card_asks_law, reader_fails, reader_again_law, reader_echo, reader_full, wtx_range}
use Rattle.lost_blocks.proofs.Places.{Stage, Fresh, Acked, Owed, Asked, Shown, Joined, Place, place, Case, turn_of, joined_of, up_of, card_of, down_of, lent_of, done_of, reader_of, ends_of, frame_of, reply_of, Ok, OkAt, done, number_at, Count, toggles, need}

asks_nak : (b n : Bool) → asks_again (cond b Sending Awaiting) n ≡ Nak n
asks_nak true n = refl
asks_nak false n = refl

pub same_self : (n : Bool) → same n n ≡ true
same_self true = refl
same_self false = refl

same_not : (n : Bool) → same n (not n) ≡ false
same_not true = refl
same_not false = refl

-- how many frames of a round are lost or damaged
abbrev pub lost_in : Round → List ℕ → ℕ
lost_in x reply = failed x.down + failed_of reply x.up

-- a round after which the reader has done r, and the card stands at place g
abbrev pub passed_to : Case → Bool → ℕ → Stage → ℕ → List ℕ → Out ReaderLink → Passed
passed_to z n at g times reply r =
    record {
      got = replicate times z.m;
      reply = reply;
      told = r.told;
      next = r.sent;
      ends = record { reader = r.link; card = card_of z n at g; down = down_of z at g; up = r.buffer; lent = lent_of z g };
    }

-- the buffers hold message and answer
pub record Room (z : Case) : Type 0 where
  pub down : length z.m ≤ length z.d
  pub up : length z.a ≤ length z.u

-- from s on, in the second claim's terms, the counts hold after a round over x that leads to s'
abbrev pub Counts : Case → Place → Round → Place → List ℕ → Type 0
Counts z s x s' reply =
    Room z → x.host ≡ Answers → (b : ℕ) → Count z s b → lost_in x reply ≤ b
    → Count z s' (cond (same (number_at z s) (number_at z s')) (b - lost_in x reply) most_lost)
    × (need z s' < need z s + 2 * lost_in x reply)

-- .. or the run ends with the answer
abbrev pub Wins : Case → Place → Round → Passed → Type 0
Wins z s x p = Room z → x.host ≡ Answers → (b : ℕ) → Count z s b → lost_in x p.reply ≤ b → p.told ≡ Message (length z.a)

-- the reader has the answer, the command having been delivered so often; and the ends are ready for the next message
pub record Has (z : Case) (times : ℕ) (t : Told) (e : Ends) : Type 0 where
  pub once : times ≡ 1
  pub told : t ≡ Message (length z.a)
  pub down : e.down ≡ overlay z.d 0 z.m
  pub up : e.up ≡ overlay z.u 0 z.a
  pub lent : e.lent ≡ z.a
  pub between : Between z.i z.j e

-- What a round over x comes to from s on: it goes on from s', or the reader ends
pub data Outcome (z : Case) (s : Place) (x : Round) : Type 0 where
  on : (s' : Place) (times : ℕ) (reply : List ℕ)
      → passes z.m z.a x (ends_of z s) (frame_of z s) ≡ record { got = replicate times z.m; reply = reply; ends = ends_of z s'; told = Quiet; next = frame_of z s' }
      → OkAt z s' → done z s + times ≡ done z s' → Counts z s x s' reply → Outcome z s x
  stop : (p : Passed) (times : ℕ) → passes z.m z.a x (ends_of z s) (frame_of z s) ≡ p → is_quiet p.told ≡ false
      → p.got ≡ replicate times z.m → done z s + times ≤ 1
      → Ending (Has z (done z s + times) p.told p.ends) p.told → Wins z s x p → Outcome z s x

module _ (z : Case) (hm : length z.m ≤ message_max) (ha : length z.a ≤ message_max) where
  abbrev i : ℕ
  i = z.i

  abbrev j : ℕ
  j = z.j

  abbrev m : List ℕ
  m = z.m

  abbrev a : List ℕ
  a = z.a

  abbrev d : List ℕ
  d = z.d

  abbrev u : List ℕ
  u = z.u

  place_ok : (at : ℕ) (g : Stage) → Ok z at g → at ≤ length m
  place_ok at (Fresh last k) ok = ok.0
  place_ok at Acked ok = omega arith
  place_ok at Owed ok = ok
  place_ok at (Asked v) ok = ok.0
  place_ok at (Shown t k) ok = ok.0
  place_ok at (Joined k) ok = ok.0

  done_ok : (g : Stage) → done_of z g ≤ 1
  done_ok (Fresh last k) = omega arith
  done_ok Acked = omega arith
  done_ok Owed = omega arith
  done_ok (Asked v) = omega arith
  done_ok (Shown t k) = omega arith
  done_ok (Joined k) = omega arith

  -- the reader's frame after silence or damage
  asks_frame : (n : Bool) (at again rep : ℕ) (g : Stage) → block_bytes (asks_again (turn_of z at g) n) [] ≡ frame_of z (place n at again rep g false)
  asks_frame n at again rep (Fresh last k) = ap (λ b. block_bytes b []) (asks_nak (follows j at (length m)) n)
  asks_frame n at again rep Acked = refl
  asks_frame n at again rep Owed = refl
  asks_frame n at again rep (Asked v) = refl
  asks_frame n at again rep (Shown t k) = refl
  asks_frame n at again rep (Joined k) = refl

  -- from here on: one round over x from a place
  module _ (n : Bool) (at again rep : ℕ) (g : Stage) (own : Bool) (x : Round) where
    abbrev s : Place
    s = place n at again rep g own

    -- the card's half of the round has led to g' with this reply; r is what the reader does then
    abbrev Half : Stage → List ℕ → ℕ → Type 0
    Half g' reply times =
        (r : Out ReaderLink) → reader_block (reader_of z n at again rep g') (carried x.up i reply) m (up_of z g') ≡ r
        → passes m a x (ends_of z s) (frame_of z s) ≡ passed_to z n at g' times reply r

    half : (g' : Stage) (reply : List ℕ) (times : ℕ) (c : Out CardLink) (news : Told)
        → card_block (card_of z n at g) (carried x.down (card_of z n at g).own (frame_of z s)) (lent_of z g) (down_of z at g) ≡ c
        → ◌≡◌ {A = Out CardLink × List ℕ} (cond (owes c.link.phase) (acts x.host c a (lent_of z g)) (c, lent_of z g))
        (record { link = card_of z n at g'; sent = reply; told = news; buffer = down_of z at g' }, lent_of z g')
        → reader_of z n at again rep g ≡ reader_of z n at again rep g' → up_of z g ≡ up_of z g' → delivered c.told c.buffer ≡ replicate times m
        → Half g' reply times
    half g' reply times c news ec eh e₁ e₂ eg r er =
        rw (
          passed m a (ends_of z s) (frame_of z s) x c (record { link = card_of z n at g'; sent = reply; told = news; buffer = down_of z at g' }) (lent_of z g') r ec eh
              (ap₂ (λ q U. reader_block q (carried x.up i reply) m U) e₁ e₂ ∙ er),
          eg,
        )

    -- the reader may ask once more, and still have frames to lose
    abbrev Again : Stage → ℕ → Type 0
    Again g' b =
        (rep ≤ 1) × Count z (place n at again (rep + 1) g' false) (b - 1) × (need z (place n at again (rep + 1) g' false) < need z s + 2)

    -- the reader hears silence or a damaged frame
    silent : (g' : Stage) (reply : List ℕ) (times : ℕ) (e : Refusal) → Ok z at g' → done_of z g + times ≡ done_of z g' → Half g' reply times → carried x.up i reply ≡ Fault e
        → (Room z → x.host ≡ Answers → (b : ℕ) → Count z s b → lost_in x reply ≤ b → (lost_in x reply ≡ 1) × Again g' b) → Outcome z s x
    silent g' reply times e ok ed h ef cnt = go (ltb rep 2) refl
      where
        go : (t : Bool) → ltb rep 2 ≡ t → Outcome z s x
        go true et =
            on (place n at again (rep + 1) g' false) times reply
            (h (record { link = reader_of z n at again (rep + 1) g'; sent = frame_of z (place n at again (rep + 1) g' false); told = Quiet; buffer = up_of z g' })
            (rw (ef, ← asks_frame n at again (rep + 1) g') (reader_fails i j m (up_of z g') at (joined_of z g') again rep n e (turn_of z at g') true et)))
            ok ed (λ q hs b c l. let k = cnt q hs b c l in rw (same_self n, k.0) (k.1.1, k.1.2))
        go false et =
            stop (passed_to z n at g' times reply (record { link = reader_done Stopped; sent = []; told = Refused Repeats; buffer = up_of z g' })) times
            (h (record { link = reader_done Stopped; sent = []; told = Refused Repeats; buffer = up_of z g' })
            (rw ef (reader_fails i j m (up_of z g') at (joined_of z g') again rep n e (turn_of z at g') false et)))
            refl refl (omega (arith, done_ok g')) tt (λ q hs b c l. absurd (omega (arith, ltb-false rep 2 et, (cnt q hs b c l).1.0)))

    -- the card says nothing
    mute : (g' : Stage) (times : ℕ) → Ok z at g' → done_of z g + times ≡ done_of z g' → Half g' [] times
        → (Room z → x.host ≡ Answers → (b : ℕ) → Count z s b → (failed x.down ≡ 1) × (1 ≤ b → Again g' b)) → Outcome z s x
    mute g' times ok ed h cnt = go x.up refl
      where
        counted : Room z → x.host ≡ Answers → (b : ℕ) → Count z s b → lost_in x [] ≤ b → (lost_in x [] ≡ 1) × Again g' b
        counted q hs b c l = let k = cnt q hs b c in (omega (arith, k.0), k.1 (omega (arith, k.0)))

        go : (y : Fate) → x.up ≡ y → Outcome z s x
        go Arrives eu = silent g' [] times Silence ok ed h (rw eu refl) counted
        go (Fails e) eu = silent g' [] times e ok ed h (rw eu refl) counted

    -- the card sends its block: it is lost, or heard
    speaks : (g' : Stage) (times : ℕ) → Ok z at g' → done_of z g + times ≡ done_of z g' → Half g' (reply_of z n g') times
        → ((y : Fate) → failed_of (reply_of z n g') y ≡ failed y)
        → (Room z → x.host ≡ Answers → (b : ℕ) → Count z s b → (failed x.down ≡ 0) × (1 ≤ b → Again g' b))
        → (x.up ≡ Arrives → Outcome z s x) → Outcome z s x
    speaks g' times ok ed h some cnt heard = go x.up refl
      where
        go : (y : Fate) → x.up ≡ y → Outcome z s x
        go Arrives eu = heard eu
        go (Fails e) eu =
            let w : failed_of (reply_of z n g') x.up ≡ 1 = some x.up ∙ ap failed eu in
            silent g' (reply_of z n g') times e ok ed h (rw eu refl) (λ q hs b c l. let k = cnt q hs b c in (omega (arith, k.0), k.1 (omega (arith, k.0))))

    -- R(ACK) of the other number: the I goes again
    heard_fresh : (last : Block) (k times : ℕ) → Ok z at (Fresh last k) → done_of z g + times ≡ 0 → Half (Fresh last k) (reply_of z n (Fresh last k)) times → x.up ≡ Arrives
        → (Room z → x.host ≡ Answers → (b : ℕ) → Count z s b → (failed x.down ≡ 0) × (again + 1 + b ≤ 2) × (need z (place n at (again + 1) 0 (Fresh last k) true) < need z s)) → Outcome z s x
    heard_fresh last k times ok ed h eu cnt = go (ltb again 2) refl
      where
        more : Bool
        more = follows j at (length m)

        go : (t : Bool) → ltb again 2 ≡ t → Outcome z s x
        go true et =
            on (place n at (again + 1) 0 (Fresh last k) true) times (block_bytes (Ack (not n)) [])
            (h (record { link = reader_of z n at (again + 1) 0 (Fresh last k); sent = frame_of z (place n at (again + 1) 0 (Fresh last k) true); told = Quiet; buffer = u })
            (rw eu (reader_again_law i j m u at 0 again rep ok.0 hm n (follows j at (length m)) true et)))
            ok ed (λ q hs b c l. let w = cnt q hs b c in let e : lost_in x (block_bytes (Ack (not n)) []) ≡ 0 = ap₂ (λ p q. p + q) w.0 (ap failed eu) in rw (same_self n, e, sub-zero) ((w.1, refl), omega (arith, w.2)))
        go false et =
            stop (passed_to z n at (Fresh last k) times (block_bytes (Ack (not n)) []) (record { link = reader_done Stopped; sent = []; told = Refused Forbidden; buffer = u })) times
            (h (record { link = reader_done Stopped; sent = []; told = Refused Forbidden; buffer = u }) (rw eu (reader_again_law i j m u at 0 again rep ok.0 hm n (follows j at (length m)) false et)))
            refl refl (omega arith) tt (λ q hs b c l. absurd (omega (arith, ltb-false again 2 et, (cnt q hs b c).1)))

    -- what the counts need where the reader toggles: the card's half has cost no toggle and no frame
    abbrev Due : Stage → Type 0
    Due g' = Room z → x.host ≡ Answers → (b : ℕ) → Count z s b → (failed x.down ≡ 0) × (toggles z at g' ≤ toggles z at g)

    -- R(ACK) of the own number: the next I
    heard_acked : (times : ℕ) → Ok z at Acked → done_of z g + times ≡ 0 → Half Acked (reply_of z n Acked) times → x.up ≡ Arrives → Due Acked → Outcome z s x
    heard_acked times ok ed h eu due =
        let at' : ℕ = at + payload_max j in
        let left : length m - at - payload_max j ≡ length m - at' = omega arith in
        let next : fewest j (length m - at) ≡ suc (fewest j (length m - at')) = rw left at (fewest_next j (length m - at) (omega arith)) in
        let r : Out ReaderLink = record { link = reader_of z (not n) at' 0 0 (Fresh (Ack n) 0); sent = frame_of z (place (not n) at' 0 0 (Fresh (Ack n) 0) true); told = Quiet; buffer = u } in
        on (place (not n) at' 0 0 (Fresh (Ack n) 0) true) times (block_bytes (Ack n) [])
        (h r (rw eu (reader_acked i j at again rep n m u (omega arith) hm))
        ∙ ap (λ c. record { got = replicate times m; reply = block_bytes (Ack n) []; told = Quiet; next = r.sent; ends = record { reader = r.link; card = card j i c Receiving (Ack n) at' 0; down = down_of z at Acked; up = u; lent = z.lent } }) (sym (not-not n)))
        (omega arith, ok.1, tt) ed (λ q hs b c l. let w = due q hs b c in rw (same_not n) ((omega arith, refl), omega (arith, w.1)))

    -- WTX is echoed
    heard_asked : (v times : ℕ) → Ok z at (Asked v) → done_of z g + times ≡ 1 → Half (Asked v) (reply_of z n (Asked v)) times → x.up ≡ Arrives
        → (Room z → x.host ≡ Answers → (b : ℕ) → Count z s b → ⊥) → Outcome z s x
    heard_asked v times ok ed h eu never =
        on (place n at again 0 (Asked v) true) times (block_bytes (Wtx v) [])
        (h (record { link = reader_of z n at again 0 (Asked v); sent = block_bytes (Wtx v) []; told = Quiet; buffer = u }) (rw eu (reader_echo i j m u at 0 again rep v n ok.1 ok.2)))
        ok ed (λ q hs b c l. absurd (never q hs b c))

    -- the card's I of place k: joined, or too long
    module _ (t : Turn) (k times : ℕ) (ok : Ok z at (Shown t k)) (ed : done_of z g + times ≡ 1) (h : Half (Shown t k) (reply_of z n (Shown t k)) times) (eu : x.up ≡ Arrives) (due : Due (Shown t k)) where
      abbrev shown_part : List ℕ
      shown_part = part i k a

      abbrev joined_up : List ℕ
      joined_up = overlay u 0 (take k a)

      joined_length : length joined_up ≡ length u
      joined_length = length_overlay u 0 (take k a) (omega (arith, length-take-le k a ok.1))

      heard_more : follows i k (length a) ≡ true → fits (k + length shown_part) (length joined_up) ≡ true → Outcome z s x
      unfolding follows
      heard_more ef et =
          let k' : ℕ = k + payload_max i in
          let l : k' < length a = ltb-true (k + payload_max i) (length a) ef in
          let full : k + length shown_part ≡ k' = omega (arith, part_full i k a (omega arith)) in
          let hf : (k + length shown_part ≤ message_max) × (k + length shown_part ≤ length joined_up) = fits_true (k + length shown_part) (length joined_up) (sym et) in
          let left : length a - k - payload_max i ≡ length a - k' = omega arith in
          let next : fewest i (length a - k) ≡ suc (fewest i (length a - k')) = rw left at (fewest_next i (length a - k) (omega arith)) in
          let r : Out ReaderLink = record { link = reader_of z (not n) 0 0 0 (Joined k); sent = block_bytes (Ack (not n)) []; told = Quiet; buffer = up_of z (Joined k) } in
          on (place (not n) 0 0 0 (Joined k) true) times (reply_of z n (Shown t k))
          (h r (rw (eu, ef, reader_chained i j at k again rep shown_part m joined_up (part_fits i k a) hf.0 hf.1 t n ok.3, full, joined_next i k a u ok.1 (omega (arith, joined_length))))
          ∙ ap₂ (λ f c. record { got = replicate times m; reply = reply_of z n (Shown t k); told = Quiet; next = r.sent; ends = record { reader = r.link; card = card j i c (cond f Answering Receiving) (I c f) 0 k; down = overlay d 0 m; up = r.buffer; lent = a } }) ef (sym (not-not n)))
          (omega arith, l, omega (arith, joined_length)) ed (λ q hs b c l. let w = due q hs b c in rw (same_not n) (omega arith, omega (arith, w.1)))

      heard_last : follows i k (length a) ≡ false → fits (k + length shown_part) (length joined_up) ≡ true → Outcome z s x
      unfolding follows
      heard_last ef et =
          let l : length a ≤ k + payload_max i = ltb-false (k + payload_max i) (length a) ef in
          let full : k + length shown_part ≡ length a = part_rest i k a ok.1 l in
          let hf : (k + length shown_part ≤ message_max) × (k + length shown_part ≤ length joined_up) = fits_true (k + length shown_part) (length joined_up) (sym et) in
          let r : Out ReaderLink = record { link = reader_open i j (not n); sent = []; told = Message (length a); buffer = overlay u 0 a } in
          let e : Ends = record { reader = r.link; card = card j i n Receiving (I n false) 0 k; down = overlay d 0 m; up = r.buffer; lent = a } in
          stop (record { got = replicate times m; reply = reply_of z n (Shown t k); told = Message (length a); next = []; ends = e }) times
          (h r (rw (eu, ef, reader_last i j at k again rep shown_part m joined_up (part_fits i k a) hf.0 hf.1 t n ok.3, full, joined_all i k a u ok.1 (omega (arith, joined_length)) l))
          ∙ ap (λ f. record { got = replicate times m; reply = reply_of z n (Shown t k); told = Message (length a); next = []; ends = record { reader = r.link; card = card j i n (cond f Answering Receiving) (I n f) 0 k; down = overlay d 0 m; up = r.buffer; lent = a } }) ef)
          refl refl (omega arith)
          (record {
            once = ed;
            told = refl;
            down = refl;
            up = refl;
            lent = refl;
            between = record { reader = refl; number = sym (not-not n); phase = refl; joined = refl; own = refl; other = refl; last = tt };
          }) (λ q hs b c l. refl)

      heard_shown : Outcome z s x
      heard_shown = go (follows i k (length a)) refl (fits (k + length shown_part) (length joined_up)) refl
        where
          go : (f : Bool) → follows i k (length a) ≡ f → (y : Bool) → fits (k + length shown_part) (length joined_up) ≡ y → Outcome z s x
          go f ef false et =
              stop (passed_to z n at (Shown t k) times (reply_of z n (Shown t k)) (record { link = reader_done Stopped; sent = []; told = Refused TooLong; buffer = joined_up })) times
              (h (record { link = reader_done Stopped; sent = []; told = Refused TooLong; buffer = joined_up })
              (rw eu (reader_full i j m joined_up at k again rep shown_part t n (follows i k (length a)) (part_fits i k a) ok.3 et)))
              refl refl (omega arith) tt
              (λ q hs b c l. absurd (false≢true (sym et ∙ fits_both (k + length shown_part) (length joined_up) (omega (arith, ha, part_in i k a ok.1)) (omega (arith, q.up, joined_length, part_in i k a ok.1)))))
          go true ef true et = heard_more ef et
          go false ef true et = heard_last ef et

  -- ---- the card's half, by the place

  -- the reader's frame is lost, and the card owes nothing
  still : (n : Bool) (at again rep : ℕ) (g : Stage) (own : Bool) (e : Refusal) (hs : Act) (uf : Fate) → Ok z at g → owes (card_of z n at g).phase ≡ false
      → ((b : ℕ) → Count z (place n at again rep g own) b → 1 ≤ b → Again n at again rep g own (record { down = Fails e; host = hs; up = uf }) g b)
      → Outcome z (place n at again rep g own) (record { down = Fails e; host = hs; up = uf })
  still n at again rep g own e hs uf ok o k =
      mute n at again rep g own (record { down = Fails e; host = hs; up = uf }) g 0 ok (add-zero (done_of z g))
      (half n at again rep g own (record { down = Fails e; host = hs; up = uf }) g [] 0 (record { link = card_of z n at g; sent = []; told = Quiet; buffer = down_of z at g }) Quiet
      (card_fails (card_of z n at g) e (lent_of z g) (down_of z at g) o) (rw o refl) refl refl refl)
      (λ q hs b c. (refl, k b c))

  -- the command is delivered, or was before, and the host owes the answer: it gives it, asks for WTX, or waits
  module _ (n : Bool) (at again rep : ℕ) (g : Stage) (own : Bool) (dn uf : Fate) (times : ℕ) (ct : Told) (h : at ≤ length m)
      (ec : card_block (card_of z n at g) (carried dn (card_of z n at g).own (frame_of z (place n at again rep g own))) (lent_of z g) (down_of z at g)
      ≡ record { link = card j i n Owing Nothing 0 0; sent = []; told = ct; buffer = overlay d 0 m })
      (er : reader_of z n at again rep g ≡ reader i j n Awaiting at 0 again rep) (eu : up_of z g ≡ u) (el : lent_of z g ≡ z.lent)
      (eg : delivered ct (overlay d 0 m) ≡ replicate times m) (ed : done_of z g + times ≡ 1) where
    -- what the counts need where it answers at once
    abbrev Prompts : Type 0
    Prompts = Room z → (b : ℕ) → Count z (place n at again rep g own) b
        → (failed dn ≡ 0) × (toggles z at (Shown Awaiting 0) ≤ toggles z at g)
        × (1 ≤ b → Again n at again rep g own (record { down = dn; host = Answers; up = uf }) (Shown Awaiting 0) b)

    abbrev owed : Out CardLink
    owed = record { link = card j i n Owing Nothing 0 0; sent = []; told = ct; buffer = overlay d 0 m }

    hosts : (hs : Act) → Prompts → Outcome z (place n at again rep g own) (record { down = dn; host = hs; up = uf })
    hosts Answers k =
        let x : Round = record { down = dn; host = Answers; up = uf } in
        let g' : Stage = Shown Awaiting 0 in
        let ok : Ok z at g' = (h, omega arith, omega arith, refl) in
        let hf : Half n at again rep g own x g' (reply_of z n g') times =
        half n at again rep g own x g' (reply_of z n g') times owed Quiet ec (ap (λ o. (o, a)) (card_reply_law j i Nothing 0 0 n a (overlay d 0 m) ha)) er (eu ∙ sym (overlay_nil u 0)) eg in
        speaks n at again rep g own x g' times ok ed hf (λ y. refl) (λ q hs b c. ((k q b c).0, (k q b c).2))
        (λ ex. heard_shown n at again rep g own x Awaiting 0 times ok ed hf ex (λ q hs b c. ((k q b c).0, (k q b c).1)))
    hosts (Asks v) k = go (wtx_ok v) refl
      where
        x : Round
        x = record { down = dn; host = Asks v; up = uf }

        late : x.host ≡ Answers → ⊥
        late e = false≢true (ap gives e)

        go : (t : Bool) → wtx_ok v ≡ t → Outcome z (place n at again rep g own) (record { down = dn; host = Asks v; up = uf })
        go true et =
            let ok : Ok z at (Asked v) = (h, (wtx_range v et).0, (wtx_range v et).1) in
            let hf : Half n at again rep g own x (Asked v) (reply_of z n (Asked v)) times =
            half n at again rep g own x (Asked v) (reply_of z n (Asked v)) times owed Quiet ec (ap₂ (λ o l. (o, l)) (card_asks_law j i n v (overlay d 0 m) true et) el) er eu eg in
            speaks n at again rep g own x (Asked v) times ok ed hf (λ y. refl) (λ q hs b c. absurd (late hs))
            (λ ex. heard_asked n at again rep g own x v times ok ed hf ex (λ q hs b c. late hs))
        go false et =
            mute n at again rep g own x Owed times h ed
            (half n at again rep g own x Owed [] times owed (Refused Argument) ec (ap₂ (λ o l. (o, l)) (card_asks_law j i n v (overlay d 0 m) false et) el) er eu eg)
            (λ q hs b c. absurd (late hs))
    hosts Waits k =
        mute n at again rep g own (record { down = dn; host = Waits; up = uf }) Owed times h ed
        (half n at again rep g own (record { down = dn; host = Waits; up = uf }) Owed [] times owed ct ec (ap (λ l. (owed, l)) el) er eu eg)
        (λ q hs b c. absurd (false≢true (ap gives hs)))

  -- the reader's I arrives
  module _ (n : Bool) (at again rep : ℕ) (last : Block) (k : ℕ) (hs : Act) (uf : Fate) (ok : Ok z at (Fresh last k)) where
    abbrev x : Round
    x = record { down = Arrives; host = hs; up = uf }

    abbrev out_part : List ℕ
    out_part = part j at m

    abbrev joined_down : List ℕ
    joined_down = overlay d 0 (take at m)

    down_length : length joined_down ≡ length d
    down_length = length_overlay d 0 (take at m) (omega (arith, length-take-le at m ok.0))

    -- too long: the card is silent
    arrives_full : fits (at + length out_part) (length joined_down) ≡ false → Outcome z (place n at again rep (Fresh last k) true) x
    arrives_full et =
        mute n at again rep (Fresh last k) true x (Fresh last k) 0 ok refl
        (half n at again rep (Fresh last k) true x (Fresh last k) [] 0 (record { link = card_of z n at (Fresh last k); sent = []; told = Refused TooLong; buffer = joined_down }) (Refused TooLong)
        (card_full j i last at k out_part z.lent joined_down n (not n) (follows j at (length m)) (part_fits j at m) et) refl refl refl refl)
        (λ q hs b c. absurd (false≢true (sym et ∙ fits_both (at + length out_part) (length joined_down) (omega (arith, hm, part_in j at m ok.0)) (omega (arith, q.down, down_length, part_in j at m ok.0)))))

    arrives_more : fits (at + length out_part) (length joined_down) ≡ true → follows j at (length m) ≡ true → Outcome z (place n at again rep (Fresh last k) true) x
    unfolding follows
    arrives_more et ef =
        let l : at + payload_max j < length m = ltb-true (at + payload_max j) (length m) ef in
        let full : at + length out_part ≡ at + payload_max j = omega (arith, part_full j at m (omega arith)) in
        let hf : (at + length out_part ≤ message_max) × (at + length out_part ≤ length joined_down) = fits_true (at + length out_part) (length joined_down) (sym et) in
        let okA : Ok z at Acked = (l, omega (arith, down_length)) in
        let c : Out CardLink = record { link = card_of z n at Acked; sent = block_bytes (Ack n) []; told = Quiet; buffer = down_of z at Acked } in
        let h : Half n at again rep (Fresh last k) true x Acked (reply_of z n Acked) 0 =
        half n at again rep (Fresh last k) true x Acked (reply_of z n Acked) 0 c Quiet
        (rw ef (rw (full, joined_next j at m d ok.0 (omega (arith, down_length))) at (card_chained j i last k at out_part z.lent joined_down (part_fits j at m) hf.0 hf.1 n)))
        refl (ap (λ b. reader i j n (cond b Sending Awaiting) at 0 again rep) ef) refl refl in
        speaks n at again rep (Fresh last k) true x Acked 0 okA refl h (λ y. refl) (λ q hs b c. (refl, λ g. (omega arith, omega arith, omega arith)))
        (λ ex. heard_acked n at again rep (Fresh last k) true x 0 okA refl h ex (λ q hs b c. (refl, omega arith)))

    arrives_last : fits (at + length out_part) (length joined_down) ≡ true → follows j at (length m) ≡ false → Outcome z (place n at again rep (Fresh last k) true) x
    unfolding follows
    arrives_last et ef =
        let l : length m ≤ at + payload_max j = ltb-false (at + payload_max j) (length m) ef in
        let full : at + length out_part ≡ length m = part_rest j at m ok.0 l in
        let hf : (at + length out_part ≤ message_max) × (at + length out_part ≤ length joined_down) = fits_true (at + length out_part) (length joined_down) (sym et) in
        let one : 1 ≤ fewest j (length m - at) = fewest_some j (length m - at) in
        let none : length a - 0 ≡ length a = sub-zero (length a) in
        hosts n at again rep (Fresh last k) true Arrives uf 1 (Message (length m)) ok.0
        (rw ef (rw (full, joined_all j at m d ok.0 (omega (arith, down_length)) l) at (card_last j i last k at out_part z.lent joined_down (part_fits j at m) hf.0 hf.1 n)))
        (ap (λ b. reader i j n (cond b Sending Awaiting) at 0 again rep) ef) refl refl (rw (overlay_front d m) refl) refl hs
        (λ q b c. rw none (refl, omega arith, λ g. (omega arith, omega arith, omega arith)))

    arrives : Outcome z (place n at again rep (Fresh last k) true) x
    arrives = go (fits (at + length out_part) (length joined_down)) refl (follows j at (length m)) refl
      where
        go : (t : Bool) → fits (at + length out_part) (length joined_down) ≡ t → (f : Bool) → follows j at (length m) ≡ f → Outcome z (place n at again rep (Fresh last k) true) x
        go false et f ef = arrives_full et
        go true et true ef = arrives_more et ef
        go true et false ef = arrives_last et ef

  -- the card sends its last block again
  repeated : (n : Bool) (at again rep : ℕ) (g : Stage) (own : Bool) (hs : Act) (uf : Fate)
      → card_block (card_of z n at g) (verdict (card_of z n at g).own (frame_of z (place n at again rep g own))) (lent_of z g) (down_of z at g)
      ≡ record { link = card_of z n at g; sent = reply_of z n g; told = Quiet; buffer = down_of z at g }
      → owes (card_of z n at g).phase ≡ false → Half n at again rep g own (record { down = Arrives; host = hs; up = uf }) g (reply_of z n g) 0
  repeated n at again rep g own hs uf ec o =
      half n at again rep g own (record { down = Arrives; host = hs; up = uf }) g (reply_of z n g) 0
      (record { link = card_of z n at g; sent = reply_of z n g; told = Quiet; buffer = down_of z at g }) Quiet ec (rw o refl) refl refl refl

  -- the reader's frame is lost
  lost : (e : Refusal) (hs : Act) (uf : Fate) (s : Place) → OkAt z s → Outcome z s (record { down = Fails e; host = hs; up = uf })
  lost e hs uf (place n at again rep (Fresh last k) true) ok = still n at again rep (Fresh last k) true e hs uf ok refl (λ b c l. (omega arith, (omega arith, omega arith), omega arith))
  lost e hs uf (place n at again rep (Fresh last k) false) ok = still n at again rep (Fresh last k) false e hs uf ok refl (λ b c l. (omega arith, (omega arith, omega arith), omega arith))
  lost e hs uf (place n at again rep Acked own) ok = still n at again rep Acked own e hs uf ok refl (λ b c l. (omega arith, omega arith, omega arith))
  lost e hs uf (place n at again rep Owed own) ok =
      hosts n at again rep Owed own (Fails e) uf 0 (Refused NotDue) ok (card_owing j i n (Fault e) z.lent (overlay d 0 m)) refl refl refl refl refl hs (λ q b c. absurd c)
  lost e hs uf (place n at again rep (Asked v) own) ok = still n at again rep (Asked v) own e hs uf ok refl (λ b c l. absurd c)
  lost e hs uf (place n at again rep (Shown t k) own) ok = still n at again rep (Shown t k) own e hs uf ok (owes_none (follows i k (length a))) (λ b c l. (omega arith, omega arith, omega arith))
  lost e hs uf (place n at again rep (Joined k) own) ok = still n at again rep (Joined k) own e hs uf ok refl (λ b c l. (omega arith, omega arith, omega arith))

  -- .. or arrives
  comes : (hs : Act) (uf : Fate) (s : Place) → OkAt z s → Outcome z s (record { down = Arrives; host = hs; up = uf })
  comes hs uf (place n at again rep (Fresh last k) true) ok = arrives n at again rep last k hs uf ok
  comes hs uf (place n at again rep (Fresh last k) false) ok =
      let x : Round = record { down = Arrives; host = hs; up = uf } in
      let g : Stage = Fresh last k in
      let g' : Stage = Fresh (Ack (not n)) k in
      let ok' : Ok z at g' = (ok.0, ok.1, tt) in
      let h : Half n at again rep g false x g' (reply_of z n g') 0 =
      half n at again rep g false x g' (reply_of z n g') 0 (record { link = card_of z n at g'; sent = reply_of z n g'; told = Quiet; buffer = down_of z at g' }) Quiet
      (card_nak j i last at k z.lent (down_of z at g) n) refl refl refl refl in
      speaks n at again rep g false x g' 0 ok' refl h (λ y. refl) (λ q hs b c. (refl, λ l. (omega arith, (omega arith, omega arith), omega arith)))
      (λ ex. heard_fresh n at again rep g false x (Ack (not n)) k 0 ok' refl h ex (λ q hs b c. (refl, omega arith, omega arith)))
  comes hs uf (place n at again rep Acked own) ok =
      let x : Round = record { down = Arrives; host = hs; up = uf } in
      let h : Half n at again rep Acked own x Acked (reply_of z n Acked) 0 =
      repeated n at again rep Acked own hs uf (card_again j i Receiving (Ack n) (at + payload_max j) 0 z.lent (down_of z at Acked) Sending n refl (lent_any (card_of z n at Acked) (length z.lent) (card_sends (card_of z n at Acked)) refl)) refl in
      speaks n at again rep Acked own x Acked 0 ok refl h (λ y. refl) (λ q hs b c. (refl, λ l. (omega arith, omega arith, omega arith)))
      (λ ex. heard_acked n at again rep Acked own x 0 ok refl h ex (λ q hs b c. (refl, omega arith)))
  comes hs uf (place n at again rep Owed own) ok =
      hosts n at again rep Owed own Arrives uf 0 (Refused NotDue) ok (card_owing j i n (verdict j (block_bytes (Nak n) [])) z.lent (overlay d 0 m)) refl refl refl refl refl hs (λ q b c. absurd c)
  comes hs uf (place n at again rep (Asked v) true) ok =
      hosts n at again rep (Asked v) true Arrives uf 0 Granted ok.0 (card_granted_law j i n v z.lent (overlay d 0 m)) refl refl refl refl refl hs (λ q b c. absurd c)
  comes hs uf (place n at again rep (Asked v) false) ok =
      let x : Round = record { down = Arrives; host = hs; up = uf } in
      let h : Half n at again rep (Asked v) false x (Asked v) (reply_of z n (Asked v)) 0 =
      repeated n at again rep (Asked v) false hs uf (card_again j i (Waiting v) (Wtx v) 0 0 z.lent (overlay d 0 m) Awaiting n refl (lent_any (card_of z n at (Asked v)) (length z.lent) (card_sends (card_of z n at (Asked v))) refl)) refl in
      speaks n at again rep (Asked v) false x (Asked v) 0 ok refl h (λ y. refl) (λ q hs b c. absurd c) (λ ex. heard_asked n at again rep (Asked v) false x v 0 ok refl h ex (λ q hs b c. c))
  comes hs uf (place n at again rep (Shown t k) own) ok =
      let x : Round = record { down = Arrives; host = hs; up = uf } in
      let f : Bool = follows i k (length a) in
      let h : Half n at again rep (Shown t k) own x (Shown t k) (reply_of z n (Shown t k)) 0 =
      repeated n at again rep (Shown t k) own hs uf (card_again j i (cond f Answering Receiving) (I n f) 0 k a (overlay d 0 m) t n (owes_none f) (lent_fits (card_of z n at (Shown t k)) (length a) (card_sends (card_of z n at (Shown t k))) ok.1 ha)) (owes_none f) in
      speaks n at again rep (Shown t k) own x (Shown t k) 0 ok refl h (λ y. refl) (λ q hs b c. (refl, λ l. (omega arith, omega arith, omega arith)))
      (λ ex. heard_shown n at again rep (Shown t k) own x t k 0 ok refl h ex (λ q hs b c. (refl, omega arith)))
  comes hs uf (place n at again rep (Joined k) own) ok =
      let x : Round = record { down = Arrives; host = hs; up = uf } in
      let k' : ℕ = k + payload_max i in
      let g' : Stage = Shown Joining k' in
      let f : Bool = follows i k' (length a) in
      let ok' : Ok z at g' = (ok.0, omega arith, ok.2, refl) in
      let h : Half n at again rep (Joined k) own x g' (reply_of z n g') 0 =
      half n at again rep (Joined k) own x g' (reply_of z n g') 0 (record { link = card_of z n at g'; sent = reply_of z n g'; told = Quiet; buffer = overlay d 0 m }) Quiet
      (card_next_law j i k a (overlay d 0 m) n (omega arith) ha) (rw (owes_none f) refl) refl refl refl in
      speaks n at again rep (Joined k) own x g' 0 ok' refl h (λ y. refl) (λ q hs b c. (refl, λ l. (omega arith, omega arith, omega arith)))
      (λ ex. heard_shown n at again rep (Joined k) own x Joining k' 0 ok' refl h ex (λ q hs b c. (refl, omega arith)))

  pub round : (dn : Fate) (hs : Act) (uf : Fate) (s : Place) → OkAt z s → Outcome z s (record { down = dn; host = hs; up = uf })
  round Arrives hs uf s ok = comes hs uf s ok
  round (Fails e) hs uf s ok = lost e hs uf s ok
