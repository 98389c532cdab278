-- The exchange as it runs is the run of the rules. Assumes nothing.
use Rattle.std.specs.Prelude.{◌≡◌, Bool, replicate}
use Rattle.std.proofs.Math.Path.{refl, sym, ap}
use Rattle.std.proofs.Common.{◌∙◌, zero-add, length-append, length-take-le}
use Rattle.std.proofs.Math.Bool.{true, false, cond}
use Rattle.std.proofs.lemmas.Bool.{false≢true}
use mathlib.Core.List.{List, [], ◌∷◌, ◌++◌}
use Prim.Native.Nat.{ℕ, zero, suc, ◌+◌, ◌-◌, ◌≤◌, ◌<◌}
use native.Mathlib.Omega.{arith}
use Rattle.std.proofs.Math.ListN.{length, take}
use Rattle.std.proofs.Math.Dec.{ltb}
use borrow.Author.Tests.{ltb-true, ltb-false}
use Rattle.rows.specs.Rows.{overlay, Bytes}
use Rattle.rows.proofs.RowLaws.{overlay_front}
use Rattle.block.specs.declared.Told.{Told}
use Rattle.block.specs.declared.Told.TheVariants.{Quiet, Message, Granted, Deselected, Refused}
use Rattle.block.specs.Out.{Out}
use Rattle.block.specs.AirLaws.{read_fits}
use Rattle.card_link.specs.declared.LinkCard.{LinkCard}
use Rattle.card_link.specs.declared.CardTurn.{CardTurn}
use Rattle.limits.specs.Limits.{row_room}
use Rattle.card_link.specs.CardCalls.{owing, take_call, turn_of, reply_call, ask_call}
use Rattle.reader_link.specs.declared.LinkReader.{LinkReader}
use Rattle.reader_link.specs.declared.LinkTurn.{LinkTurn}
use Rattle.reader_link.specs.ReaderCalls.{Called, bits_by, hear_call, send_call}
use Rattle.reader_link.specs.BitsLaws.{hear_counted, send_counted}
use Rattle.exchange.specs.declared.Fates.{Fates}
use Rattle.exchange.specs.declared.Hosted.{Hosted}
use Rattle.exchange.specs.declared.Progress.{Progress}
use Rattle.exchange.specs.declared.Outcome.{Outcome}
use Rattle.exchange.specs.Exchange.{Act, Answers, Asks, Waits, delivered, is_quiet}
use Rattle.exchange.specs.RowExchange.{RowEnds, RowPassed, row_passes, RowRun, row_over, row_after, row_exchange, row_talk, told_by, Terms, RowExchanged}
use Rattle.exchange.specs.Lossy.{heard_as, RowRound, row_clean, row_acts, lossy_passes, lossy_exchange, lossy_talk, round_by, fates_at, rounds_from}
use Rattle.exchange.proofs.RowExchangeLaws.{row_exchanged}
use Rattle.exchange.specs.MessageLaws.{message_in, message_fits}
use Rattle.exchange.specs.Steps.{ends_of, acts_on, acts_row, hosted, hosted_row, count_in, last_in, advanced, Fit, begun, goes_on, done_by, last_of, answers_in, answers_on, State, state_of, gives, gives_in, gives_on, round_of, Sum, sum_of, rest_of, outcome_of, exchange_of, lossy_of}
use Rattle.exchange.specs.Promise.{Exchanges}

-- ---- the messages that the card's host gets

count_delivered : (t : Told) (b : List ℕ) → count_in t ≡ length (delivered t b)
count_delivered (Message n) b = refl
count_delivered Quiet b = refl
count_delivered Granted b = refl
count_delivered Deselected b = refl
count_delivered (Refused e) b = refl

pub count_most : (t : Told) → count_in t ≤ 1
count_most (Message n) = omega arith
count_most Quiet = omega arith
count_most Granted = omega arith
count_most Deselected = omega arith
count_most (Refused e) = omega arith

last_delivered : (t : Told) (b : List ℕ) (n : ℕ) → message_in t ≤ length b → last_in t n ≡ last_of n (delivered t b)
unfolding last_of
last_delivered (Message k) b n h = sym (length-take-le k b h)
last_delivered Quiet b n h = refl
last_delivered Granted b n h = refl
last_delivered Deselected b n h = refl
last_delivered (Refused e) b n h = refl

last_append : (n : ℕ) (xs ys : List (List ℕ)) → last_of n (xs ++ ys) ≡ last_of (last_of n xs) ys
unfolding last_of
last_append n [] ys = refl
last_append n (x ∷ xs) ys = last_append (length x) xs ys

-- ---- a round

-- the card's host: what it leaves is what the rules have, and the card's frame is at the front of the row
abbrev acted : Act → Out LinkCard → List ℕ → List ℕ → Out LinkCard × List ℕ
acted x c a lent = cond (owing c.link) (row_acts x c a lent row_room) (c, lent)

pub record HostMade (x : Act) (c : Out LinkCard) (a before : List ℕ) (answered : Bool) (h : Hosted) (row : List ℕ) : Type 0 where
  pub card : h.card ≡ (acted x c a (cond answered a before)).0.link
  pub lent : cond h.answered a before ≡ (acted x c a (cond answered a before)).1
  pub answers : h.answered ≡ cond (cond (owing c.link) (gives x) false) true answered
  pub frame : take h.bits row ≡ (acted x c a (cond answered a before)).0.sent
  pub fits : h.bits ≤ length row

pub host_made : (x : Act) (c : Out LinkCard) (a before reply row row' : List ℕ) (answered : Bool) (t : CardTurn) (h : Hosted) → t ≡ turn_of c → length row ≡ row_room → row ≡ overlay reply 0 c.sent
    → h ≡ hosted x t.card t.bits answered a (length row) → row' ≡ hosted_row x t.card a row → HostMade x c a before answered h row'
unfolding hosted hosted_row
host_made x c a before reply row row' answered t h et el er eh eo = rw (eo, eh, et) (go x (owing c.link) refl)
  where
    -- a frame of the card's host is written over the row
    front : (s : List ℕ) → take (length s) (overlay row 0 s) ≡ s
    front s = overlay_front row s

    kept : take (length c.sent) row ≡ c.sent
    kept = rw er (overlay_front reply c.sent)

    kept_fits : length c.sent ≤ length row
    kept_fits = read_fits (length c.sent) reply row c.sent refl er

    go : (x : Act) (o : Bool) → owing c.link ≡ o
        → HostMade x c a before answered
        (cond o (acts_on x c.link (length c.sent) answered a (length row)) (record { card = c.link; bits = length c.sent; answered = answered }))
        (cond o (acts_row x c.link a row) row)
    go Answers true o =
        let s : List ℕ = (reply_call c.link a row_room).sent in
        rw el (record { card = rw o; lent = rw o; answers = rw o; frame = rw o (front s); fits = read_fits (length s) row (overlay row 0 s) s refl refl })
    go (Asks v) true o =
        let s : List ℕ = (ask_call c.link v row_room).sent in
        rw el (record { card = rw o; lent = rw o; answers = rw o; frame = rw o (front s); fits = read_fits (length s) row (overlay row 0 s) s refl refl })
    go Waits true o = record { card = rw o; lent = rw o; answers = rw o; frame = rw o kept; fits = kept_fits }
    go x false o = record { card = rw o; lent = rw o; answers = rw o; frame = rw o kept; fits = kept_fits }

-- what the card and the reader do in a round, by their rules
module _ (x : RowRound) (p : Progress) (m before a down up row : List ℕ) where
  abbrev taken_in : ℕ → Out LinkCard
  taken_in room = take_call p.so_far.card (heard_as x.down (take p.bits row)) (cond p.so_far.answered a before) down room

  abbrev acted_on : Out LinkCard × List ℕ
  acted_on = acted x.host (taken_in row_room) a (cond p.so_far.answered a before)

  abbrev heard : Called
  heard = hear_call p.so_far.reader (heard_as x.up acted_on.0.sent) m up row_room

  -- .. as the calls hand it back: hd is what the card hears, its frame is in a row of 2,304 zeros
  module _ (hd zeros down' reply reply' : List ℕ) (t : CardTurn) (h : Hosted) (ed : hd ≡ heard_as x.down (take p.bits row)) (nz : length zeros ≡ row_room) (nr : length reply ≡ length zeros)
      (et : (t ≡ turn_of (take_call p.so_far.card hd (cond p.so_far.answered a before) down (length zeros))) × ((down' ≡ (take_call p.so_far.card hd (cond p.so_far.answered a before) down (length zeros)).buffer)
      × (reply ≡ overlay zeros 0 (take_call p.so_far.card hd (cond p.so_far.answered a before) down (length zeros)).sent)))
      (eh : (h ≡ hosted x.host t.card t.bits p.so_far.answered a (length reply)) × (reply' ≡ hosted_row x.host t.card a reply)) where
    pub host_of : HostMade x.host (taken_in row_room) a before p.so_far.answered h reply'
    host_of = let e = rw (nz, ed) at et in host_made x.host (taken_in row_room) a before zeros reply reply' p.so_far.answered t h e.0 (nr ∙ nz) e.1.1 eh.0 eh.1

    -- .. and hu is what the reader hears
    module _ (hu up' row' : List ℕ) (turn : LinkTurn) (eu : hu ≡ heard_as x.up (take h.bits reply')) (nd : length down' ≡ length down) (nw : length row ≡ row_room) (nw' : length row' ≡ length row)
        (en : (turn ≡ (hear_call p.so_far.reader hu m up (length row)).turn) × ((up' ≡ (hear_call p.so_far.reader hu m up (length row)).buffer)
        × (row' ≡ overlay row 0 (hear_call p.so_far.reader hu m up (length row)).sent))) where
      pub round_made : (r : Progress) → r ≡ advanced p t.told h turn → Fit p
          → (state_of r before a down' up' row' ≡ round_of m a x (state_of p before a down up row)) × Fit r
      unfolding state_of round_of lossy_passes advanced
      round_made r er f =
          let k = host_of in
          let c : Out LinkCard = taken_in row_room in
          let e = rw (nz, ed) at et in
          let q : hear_call p.so_far.reader hu m up (length row) ≡ heard =
          ap (λ z. hear_call p.so_far.reader z m up (length row)) (eu ∙ ap (heard_as x.up) k.frame) ∙ ap (λ n. hear_call p.so_far.reader (heard_as x.up acted_on.0.sent) m up n) nw in
          let et' : turn ≡ heard.turn = en.0 ∙ ap (λ z. z.turn) q in
          let eb' : up' ≡ heard.buffer = en.1.0 ∙ ap (λ z. z.buffer) q in
          let ew : row' ≡ overlay row 0 heard.sent = en.1.1 ∙ ap (λ z. overlay row 0 z.sent) q in
          let eb : bits_by turn.answer ≡ length heard.sent = ap (λ z. bits_by z.answer) et' ∙ hear_counted p.so_far.reader (heard_as x.up acted_on.0.sent) m up row_room in
          let ef : take (bits_by turn.answer) row' ≡ heard.sent = rw (eb, ew) (overlay_front row heard.sent) in
          let fits : bits_by turn.answer ≤ row_room = rw (nw', nw) at (read_fits (bits_by turn.answer) row row' heard.sent eb ew) in
          let ec : count_in t.told ≡ length (delivered c.told c.buffer) = ap (λ z. count_in z.told) e.0 ∙ count_delivered c.told c.buffer in
          let hl : message_in c.told ≤ length c.buffer = rw (← e.1.0, nd) (message_fits p.so_far.card (heard_as x.down (take p.bits row)) (cond p.so_far.answered a before) down row_room) in
          let el : last_in t.told p.so_far.last ≡ last_of p.so_far.last (delivered c.told c.buffer) = ap (λ z. last_in z.told p.so_far.last) e.0 ∙ last_delivered c.told c.buffer p.so_far.last hl in (
            rw er (λ i. record {
              ends = record { reader = (et' i).reader; card = k.card i; down = e.1.0 i; up = eb' i; lent = k.lent i };
              told = told_by (et' i).answer;
              frame = ef i;
              answered = k.answers i;
              rounds = p.so_far.rounds + 1;
              messages = p.so_far.messages + ec i;
              last = el i;
            }),
            rw er (record { bits = fits; messages = omega (arith, f.messages, count_most t.told) }),
          )

-- ---- the loop

-- what a state comes to where nothing more is done
abbrev ended : State → Sum
ended s = record { ends = s.ends; told = s.told; answered = s.answered; rounds = s.rounds; messages = s.messages; last = s.last }

either_false : (b : Bool) → cond b true false ≡ b
either_false true = refl
either_false false = refl

sum_over : (s : State) → sum_of (cond s.answered true false) s.rounds s.messages s.last (row_over s.told s.ends) ≡ ended s
unfolding sum_of last_of
sum_over s =
    let e : s.rounds + 0 ≡ s.rounds = omega arith in
    let k : s.messages + 0 ≡ s.messages = omega arith in
    λ i. record { ends = s.ends; told = s.told; answered = either_false s.answered i; rounds = e i; messages = k i; last = s.last }

rest_none : (m a : List ℕ) (s : State) → rest_of m a [] s ≡ ended s
unfolding rest_of lossy_exchange gives_on
rest_none m a s = sum_over s

rest_told : (m a : List ℕ) (xs : List RowRound) (s : State) → is_quiet s.told ≡ false → rest_of m a xs s ≡ ended s
unfolding rest_of lossy_exchange gives_on
rest_told m a [] s q = sum_over s
rest_told m a (x ∷ xs) s q = rw q (sum_over s)

either_later : (s o r : Bool) → cond s true (cond o true r) ≡ cond (cond o true s) true r
either_later true true r = refl
either_later true false r = refl
either_later false true r = refl
either_later false false r = refl

sum_after : (s : State) (f : List ℕ) (o n : Bool) (q : RowPassed) (r : RowRun)
    → sum_of (cond s.answered true (cond o true n)) s.rounds s.messages s.last (row_after f q r)
    ≡ sum_of (cond (cond o true s.answered) true n) (s.rounds + 1) (s.messages + length q.got) (last_of s.last q.got) r
unfolding sum_of
sum_after s f o n q r =
    let e : s.rounds + length (f ∷ r.downs) ≡ s.rounds + 1 + length r.downs = omega arith in
    let k : s.messages + length (q.got ++ r.got) ≡ s.messages + length q.got + length r.got = rw length-append (omega arith) in
    λ i. record { ends = r.ends; told = r.told; answered = either_later s.answered o n i; rounds = e i; messages = k i; last = last_append s.last q.got r.got i }

rest_turn : (m a : List ℕ) (x : RowRound) (xs : List RowRound) (s : State) → is_quiet s.told ≡ true → rest_of m a (x ∷ xs) s ≡ rest_of m a xs (round_of m a x s)
unfolding rest_of round_of lossy_exchange gives_on
rest_turn m a x xs s q = rw q (sum_after s s.frame (gives_in x s.ends s.frame) _ (lossy_passes m a row_room x s.ends s.frame) _)

-- the numbers of a call
pub record Script : Type 0 where
  pub noise : List ℕ
  pub downs : List ℕ
  pub hosts : List ℕ
  pub ups : List ℕ

abbrev pub scripted : Script → ℕ → ℕ → List RowRound
scripted c k g = rounds_from c.noise c.downs c.hosts c.ups k g

abbrev pub round_at : Script → ℕ → RowRound
round_at c k = round_by c.noise (fates_at c.downs c.hosts c.ups k)

-- under way: what is left comes to what the whole comes to
pub record Under (c : Script) (m before a : List ℕ) (rounds : ℕ) (down₀ up₀ : List ℕ) (all : Sum) (p : Progress) (down up row : List ℕ) : Type 0 where
  pub fit : Fit p
  pub within : p.so_far.rounds ≤ rounds
  pub rest : rest_of m a (scripted c p.so_far.rounds (rounds - p.so_far.rounds)) (state_of p before a down up row) ≡ all
  pub down_size : length down ≡ length down₀
  pub up_size : length up ≡ length up₀
  pub row_size : length row ≡ row_room

-- a round is left and the reader's host has been told nothing, or not
pub goes_left : (p : Progress) (rounds : ℕ) → goes_on p rounds ≡ true → (p.so_far.rounds < rounds) × (is_quiet p.so_far.told ≡ true)
goes_left p rounds g = go (ltb p.so_far.rounds rounds) refl g
  where
    go : (b : Bool) → ltb p.so_far.rounds rounds ≡ b → cond b (is_quiet p.so_far.told) false ≡ true → (p.so_far.rounds < rounds) × (is_quiet p.so_far.told ≡ true)
    go true e g = (ltb-true p.so_far.rounds rounds e, g)
    go false e g = absurd (false≢true g)

module _ (c : Script) (m before a : List ℕ) (rounds : ℕ) (down₀ up₀ : List ℕ) (all : Sum) (p : Progress) (down up row : List ℕ) (u : Under c m before a rounds down₀ up₀ all p down up row) where
  pub under_turn : (x : Fates) (r : Progress) (down' up' row' : List ℕ) → goes_on p rounds ≡ true → x ≡ fates_at c.downs c.hosts c.ups p.so_far.rounds
      → state_of r before a down' up' row' ≡ round_of m a (round_by c.noise x) (state_of p before a down up row) → Fit r
      → length down' ≡ length down → length up' ≡ length up → length row' ≡ length row → Under c m before a rounds down₀ up₀ all r down' up' row'
  unfolding state_of round_of rounds_from
  under_turn x r down' up' row' g ex e f nd nu nr =
      let w = goes_left p rounds g in
      let n : r.so_far.rounds ≡ p.so_far.rounds + 1 = ap (λ s. s.rounds) e in
      let k : rounds - p.so_far.rounds ≡ suc (rounds - (p.so_far.rounds + 1)) = omega (arith, w.0) in
      let xs : List RowRound = scripted c (p.so_far.rounds + 1) (rounds - (p.so_far.rounds + 1)) in
      record {
        fit = f;
        within = omega (arith, w.0);
        rest = ap (λ n. rest_of m a (scripted c n (rounds - n)) (state_of r before a down' up' row')) n ∙ ap (rest_of m a xs) (e ∙ ap (λ x. round_of m a (round_by c.noise x) (state_of p before a down up row)) ex) ∙ sym (rest_turn m a (round_at c p.so_far.rounds) xs (state_of p before a down up row) w.1) ∙ ap (λ g. rest_of m a (scripted c p.so_far.rounds g) (state_of p before a down up row)) (sym k) ∙ u.rest;
        down_size = nd ∙ u.down_size;
        up_size = nu ∙ u.up_size;
        row_size = nr ∙ u.row_size;
      }

  pub under_done : goes_on p rounds ≡ false → outcome_of (done_by p) before a down up ≡ all
  unfolding outcome_of done_by state_of rounds_from
  under_done g = sym (go (ltb p.so_far.rounds rounds) refl g) ∙ u.rest
    where
      go : (b : Bool) → ltb p.so_far.rounds rounds ≡ b → cond b (is_quiet p.so_far.told) false ≡ false
          → rest_of m a (scripted c p.so_far.rounds (rounds - p.so_far.rounds)) (state_of p before a down up row) ≡ ended (state_of p before a down up row)
      go true e g = rest_told m a (scripted c p.so_far.rounds (rounds - p.so_far.rounds)) (state_of p before a down up row) g
      go false e g =
          let z : rounds - p.so_far.rounds ≡ 0 = omega (arith, ltb-false p.so_far.rounds rounds e) in
          rw z (rest_none m a (state_of p before a down up row))

pub fewer : (x : RowRound) (p r : Progress) (m before a down up row down' up' row' : List ℕ) (rounds : ℕ) → goes_on p rounds ≡ true
    → state_of r before a down' up' row' ≡ round_of m a x (state_of p before a down up row) → rounds - r.so_far.rounds < rounds - p.so_far.rounds
unfolding state_of round_of
fewer x p r m before a down up row down' up' row' rounds g e =
    let n : r.so_far.rounds ≡ p.so_far.rounds + 1 = ap (λ s. s.rounds) e in
    omega (arith, (goes_left p rounds g).0)

-- the first frame is out
module _ (c : Script) (x : LinkReader) (y : LinkCard) (m before a : List ℕ) (rounds : ℕ) (down up zeros row : List ℕ) (turn : LinkTurn) (p : Progress) (nz : length zeros ≡ row_room) (nr : length row ≡ length zeros)
    (et : (turn ≡ (send_call x m (length zeros)).turn) × (row ≡ overlay zeros 0 (send_call x m (length zeros)).sent)) (ep : p ≡ begun turn y) where
  abbrev first : Called
  first = send_call x m row_room

  bits_first : bits_by turn.answer ≡ length first.sent
  bits_first = let e = rw nz at et in ap (λ z. bits_by z.answer) e.0 ∙ send_counted x m row_room

  pub under_none : Under c m before a rounds down up (rest_of m a (scripted c 0 rounds) (state_of p before a down up row)) p down up row
  unfolding begun
  under_none =
      let e = rw nz at et in
      let z : rounds - 0 ≡ rounds = omega arith in
      rw ep (record {
        fit = record { bits = rw (nr, nz) at (read_fits (bits_by turn.answer) zeros row first.sent bits_first e.1); messages = omega arith };
        within = omega arith;
        rest = ap (λ g. rest_of m a (scripted c 0 g) (state_of (begun turn y) before a down up row)) z;
        down_size = refl;
        up_size = refl;
        row_size = nr ∙ nz;
      })

  pub rest_first : rest_of m a (scripted c 0 rounds) (state_of p before a down up row) ≡ lossy_of x y m before a (scripted c 0 rounds) down up
  unfolding state_of begun lossy_of lossy_talk rest_of
  rest_first =
      let e = rw nz at et in
      let ef : take (bits_by turn.answer) row ≡ first.sent = rw (bits_first, e.1) (overlay_front zeros first.sent) in
      let z : LinkTurn → RowEnds = λ t. record { reader = t.reader; card = y; down = down; up = up; lent = before } in
      rw ep (λ i. sum_of (gives_on m a (scripted c 0 rounds) (z (e.0 i)) (told_by (e.0 i).answer) (ef i)) 0 0 0 (lossy_exchange m a row_room (scripted c 0 rounds) (z (e.0 i)) (told_by (e.0 i).answer) (ef i)))

-- ---- without errors

-- the rounds of a call without numbers
rounds_clean : (k g : ℕ) → rounds_from [] [] [] [] k g ≡ replicate g row_clean
unfolding rounds_from
rounds_clean k zero = refl
rounds_clean k (suc g) = ap (λ l. row_clean ∷ l) (rounds_clean (k + 1) g)

exchange_clean : (m a : List ℕ) (room g : ℕ) (e : RowEnds) (t : Told) (f : List ℕ) → lossy_exchange m a room (replicate g row_clean) e t f ≡ row_exchange m a room g e t f
unfolding lossy_exchange row_exchange lossy_passes row_passes
exchange_clean m a room zero e t f = refl
exchange_clean m a room (suc g) e t f = rw (exchange_clean m a room g)

-- a run without errors is the run of demand 2
pub talk_clean : (m a : List ℕ) (room g : ℕ) (e : RowEnds) → lossy_talk m a room (replicate g row_clean) e ≡ row_talk m a room g e
unfolding lossy_talk row_talk
talk_clean m a room g e = exchange_clean m a room g _ _ _

gives_clean : (m a : List ℕ) (g : ℕ) (e : RowEnds) (t : Told) (f : List ℕ) → gives_on m a (replicate g row_clean) e t f ≡ answers_on m a g e t f
unfolding gives_on answers_on lossy_passes row_passes
gives_clean m a zero e t f = refl
gives_clean m a (suc g) e t f = rw (gives_clean m a g, either_false (answers_in e f))

pub clean_is : (x : LinkReader) (y : LinkCard) (m before a : List ℕ) (rounds : ℕ) (down up : List ℕ)
    → lossy_of x y m before a (rounds_from [] [] [] [] 0 rounds) down up ≡ exchange_of x y m before a rounds down up
unfolding lossy_of exchange_of
clean_is x y m before a rounds down up = rw (rounds_clean 0 rounds, gives_clean m a rounds, talk_clean m a row_room rounds)

-- ---- demand 2

pub exchanges : (x : LinkReader) (y : LinkCard) (m before a : List ℕ) (rounds : ℕ) (down up down' up' : List ℕ) (o : Outcome) → Bytes m → Bytes before → Bytes a
    → outcome_of o before a down' up' ≡ exchange_of x y m before a rounds down up
    → (i j : ℕ) → Terms i j m a rounds (ends_of x y down up false before a) → Exchanges i j x y m before a rounds down up o down' up'
unfolding outcome_of exchange_of sum_of last_of
exchanges x y m before a rounds down up down' up' o hm hb ha e i j t =
    let z : RowExchanged i j m a (ends_of x y down up false before a) (row_talk m a row_room rounds (ends_of x y down up false before a)) =
    row_exchanged i j row_room m a rounds (ends_of x y down up false before a) (omega arith) hm ha hb t in
    let b = z.ready in
    record {
      once = ap (λ s. s.messages) e ∙ ap (λ g. 0 + length g) z.got;
      whole = ap (λ s. s.last) e ∙ ap (last_of 0) z.got;
      down_is = ap (λ s. s.ends.down) e ∙ z.down;
      told = ap (λ s. s.told) e ∙ z.told;
      up_is = ap (λ s. s.ends.up) e ∙ z.up;
      ready = record {
        links = b.links;
        reader = ap (λ s. s.ends.reader.link) e ∙ b.reader;
        card = ap (λ s. s.ends.card.link) e ∙ b.card;
        index = b.index;
        protocol = ap (λ s. s.ends.card.card.state) e ∙ b.protocol;
        between = b.between;
      };
      run = z;
      rounds_are = ap (λ s. s.rounds) e ∙ zero-add _;
    }
