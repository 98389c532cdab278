-- T-11 on the ends' block rules: both claims, over any start between messages. Assumes nothing.
use Rattle.std.specs.Prelude.{◌≡◌, Bool, true, cond, ℕ, suc, ◌+◌, ◌-◌, ◌*◌, ◌≤◌, length, leb}
use Rattle.std.proofs.Math.Path.{refl, ap}
use Rattle.std.proofs.Common.{sym, ◌∙◌, leb-true}
use Rattle.std.proofs.Math.Bool.{false}
use Rattle.std.specs.Bool.{beq as same}
use mathlib.Core.List.{List, [], ◌∷◌, ◌++◌}
use Rattle.std.proofs.Math.Nat.{zero-add, add-zero, sub-zero}
use native.Mathlib.Omega.{arith}
use Rattle.std.proofs.Math.ListN.{replicate, replicate-append-replicate}
use Rattle.rows.proofs.RowLaws.{overlay_nil}
use Rattle.rows.specs.ListLaws.{both}
use Rattle.block.specs.declared.Told.{Told}
use Rattle.block.specs.declared.Told.TheVariants.{Quiet, Message, Granted, Deselected, Refused}
use Rattle.limits.specs.Limits.{message_max}
use Rattle.block.specs.Cut.{payload_max}
use Rattle.block.specs.CutLaws.{fewest_some}
use Rattle.reader_blocks.specs.ReaderFrames.{reader_send}
use Rattle.exchange.specs.Exchange.{Answers, Round, Ends, Run, exchange, talk, Between}
use Rattle.exchange.specs.StepLaws.{reader_start}
use Rattle.exchange.proofs.ExchangeLaws.{exchange_over}
use Rattle.lost_blocks.specs.Lost.{Ending, Brought, Safe, most_lost, within, lost_all, marks, marks_of, Prompt, FewLosses}
use Rattle.lost_blocks.proofs.Places.{Fresh, Acked, Owed, Asked, Shown, Joined, Place, place, Case, ends_of, frame_of, OkAt, done, number_at, Count, need}
use Rattle.lost_blocks.proofs.RoundLaws.{same_self, lost_in, Has, Room, Outcome, on, stop, round}

pub ending_map : {A B : Type 0} → (A → B) → (t : Told) → Ending A t → Ending B t
ending_map f Quiet h = h
ending_map f (Message n) h = f h
ending_map f (Refused r) h = h
ending_map f Granted h = h
ending_map f Deselected h = h

pub ending_has : {A : Type 0} (t : Told) (n : ℕ) → t ≡ Message n → Ending A t → A
ending_has t n e h = rw e at h

most : (t : Bool) → cond t most_lost most_lost ≡ most_lost
most true = refl
most false = refl

module _ (z : Case) (hm : length z.m ≤ message_max) (ha : length z.a ≤ message_max) where
  abbrev run : List Round → Place → Run
  run xs s = exchange z.m z.a xs (ends_of z s) Quiet (frame_of z s)

  -- ---- first claim

  -- a run from here on is safe, the command having been delivered so often before
  record SafeFrom (before : ℕ) (r : Run) : Type 0 where
    times : ℕ
    once : before + times ≤ 1
    got : r.got ≡ replicate times z.m
    end : Ending (Has z (before + times) r.told r.ends) r.told

  done_once : (s : Place) → done z s ≤ 1
  done_once (place n at again rep (Fresh last k) own) = omega arith
  done_once (place n at again rep Acked own) = omega arith
  done_once (place n at again rep Owed own) = omega arith
  done_once (place n at again rep (Asked v) own) = omega arith
  done_once (place n at again rep (Shown t k) own) = omega arith
  done_once (place n at again rep (Joined k) own) = omega arith

  safe_step : (x : Round) (xs : List Round) → ((s : Place) → OkAt z s → SafeFrom (done z s) (run xs s)) → (s : Place) → Outcome z s x → SafeFrom (done z s) (run (x ∷ xs) s)
  unfolding exchange
  safe_step x xs ih s (on s' times reply e ok ed cnt) =
      let r : SafeFrom (done z s') (run xs s') = ih s' ok in
      let k : done z s + (times + r.times) ≡ done z s' + r.times = omega arith in
      rw e (record { times = times + r.times; once = rw k r.once; got = ap (λ y. replicate times z.m ++ y) r.got ∙ replicate-append-replicate times r.times z.m; end = rw k r.end })
  safe_step x xs ih s (stop p times e q eg h w win) =
      rw (e, exchange_over z.m z.a xs p.ends p.told p.next q)
      (record { times = times; once = h; got = ap (λ y. y ++ []) eg ∙ replicate-append-replicate times 0 z.m ∙ ap (λ k. replicate k z.m) (add-zero times); end = w })

  safe_run : (xs : List Round) (s : Place) → OkAt z s → SafeFrom (done z s) (run xs s)
  unfolding exchange
  safe_run [] s ok = record { times = 0; once = rw add-zero (done_once s); got = refl; end = tt }
  safe_run (x ∷ xs) s ok = safe_step x xs (safe_run xs) s (round z hm ha x.down x.host x.up s ok)

  -- ---- second claim

  need_some : (s : Place) (b : ℕ) → Count z s b → 2 ≤ need z s
  need_some (place n at again rep (Fresh last k) true) b c = omega (arith, fewest_some z.j (length z.m - at), fewest_some z.i (length z.a))
  need_some (place n at again rep (Fresh last k) false) b c = omega (arith, fewest_some z.j (length z.m - at), fewest_some z.i (length z.a))
  need_some (place n at again rep Acked own) b c = omega (arith, fewest_some z.j (length z.m - at), fewest_some z.i (length z.a))
  need_some (place n at again rep Owed own) b c = absurd c
  need_some (place n at again rep (Asked v) own) b c = absurd c
  need_some (place n at again rep (Shown t k) own) b c = omega (arith, fewest_some z.i (length z.a - k))
  need_some (place n at again rep (Joined k) own) b c = omega (arith, fewest_some z.i (length z.a - (k + payload_max z.i)))

  module _ (room : Room z) where
    abbrev Lives : List Round → Type 0
    Lives xs = (s : Place) (b : ℕ) → OkAt z s → Count z s b → need z s + 2 * lost_all (marks z.m z.a xs (ends_of z s) Quiet (frame_of z s)) ≤ suc (length xs) → Prompt xs
        → within b (number_at z s) (marks z.m z.a xs (ends_of z s) Quiet (frame_of z s)) ≡ true → (run xs s).told ≡ Message (length z.a)

    -- the number of the next round counts
    numbered : (xs : List Round) (s : Place) (left : ℕ) (n : Bool) → within left n (marks z.m z.a xs (ends_of z s) Quiet (frame_of z s)) ≡ true
        → within (cond (same n (number_at z s)) left most_lost) (number_at z s) (marks z.m z.a xs (ends_of z s) Quiet (frame_of z s)) ≡ true
    unfolding marks within
    numbered [] s left n h = refl
    numbered (x ∷ xs) s left n h = rw (same_self (number_at z s)) h

    live_step : (x : Round) (xs : List Round) → Lives xs → (s : Place) (b : ℕ) → Count z s b
        → need z s + 2 * lost_all (marks z.m z.a (x ∷ xs) (ends_of z s) Quiet (frame_of z s)) ≤ suc (suc (length xs)) → x.host ≡ Answers → Prompt xs
        → within b (number_at z s) (marks z.m z.a (x ∷ xs) (ends_of z s) Quiet (frame_of z s)) ≡ true → Outcome z s x → (run (x ∷ xs) s).told ≡ Message (length z.a)
    unfolding exchange marks within lost_all
    live_step x xs ih s b c q hx hs w (on s' times reply e ok ed cnt) =
        let v = both (leb (lost_in x reply) b) _ (rw (e, same_self (number_at z s)) at w) in
        let k = cnt room hx b c (leb-true (lost_in x reply) b v.0) in
        let q' = rw e at q in
        rw e (ih s' (cond (same (number_at z s) (number_at z s')) (b - lost_in x reply) most_lost) ok k.0 (omega (arith, k.1, q')) hs (numbered xs s' (b - lost_in x reply) (number_at z s) v.1))
    live_step x xs ih s b c q hx hs w (stop p times e eq eg h en win) =
        let v = both (leb (lost_in x p.reply) b) _ (rw (e, same_self (number_at z s)) at w) in
        rw (e, exchange_over z.m z.a xs p.ends p.told p.next eq) (win room hx b c (leb-true (lost_in x p.reply) b v.0))

    live_run : (xs : List Round) → Lives xs
    live_run [] s b ok c q hs w = absurd (omega (arith, need_some s b c))
    live_run (x ∷ xs) s b ok c q hs w = live_step x xs (live_run xs) s b c q hs.0 hs.1 w (round z hm ha x.down x.host x.up s ok)

-- ---- from a state between messages: the reader's first I is out, and the card has not taken it

module _ (i j : ℕ) (m a : List ℕ) (xs : List Round) (e : Ends) (hm : length m ≤ message_max) (ha : length a ≤ message_max) (bt : Between i j e) where
  abbrev pub case : Case
  case = record { i = i; j = j; m = m; a = a; d = e.down; u = e.up; lent = e.lent }

  abbrev pub first : Place
  first = place e.reader.number 0 0 0 (Fresh e.card.last e.card.at) true

  pub begins : reader_send e.reader m e.up ≡ record { link = (ends_of case first).reader; sent = frame_of case first; told = Quiet; buffer = e.up }
  begins = ap (λ r. reader_send r m e.up) bt.reader ∙ reader_start i j e.reader.number m e.up hm

  pub ends_first : record { reader = (ends_of case first).reader; card = e.card; down = e.down; up = e.up; lent = e.lent } ≡ ends_of case first
  ends_first = λ t. record {
    reader = (ends_of case first).reader;
    down = sym (overlay_nil e.down 0) t;
    up = e.up;
    lent = e.lent;
    card = record { own = bt.own t; reader = bt.other t; number = bt.number t; phase = bt.phase t; last = e.card.last; joined = bt.joined t; at = e.card.at };
  }

  -- T-11, first claim
  pub safe : Safe i j m a e (talk m a xs e)
  unfolding talk
  safe =
      let s : SafeFrom case hm ha 0 (talk m a xs e) = rw (begins, ends_first) (safe_run case hm ha xs first (omega arith, omega arith, bt.last)) in
      let h : Ending (Has case s.times (talk m a xs e).told (talk m a xs e).ends) (talk m a xs e).told = rw zero-add at s.end in
      record {
        times = s.times;
        once = rw zero-add at s.once;
        got = s.got;
        end = ending_map (λ h. record { answered = record { got = s.got ∙ ap (λ n. replicate n m) h.once; told = h.told; up = h.up; lent = h.lent; between = h.between }; down = h.down }) (talk m a xs e).told h;
      }

  -- T-11, second claim
  pub brought : FewLosses i j m a xs e → Brought i j m a e (talk m a xs e)
  unfolding talk marks_of
  brought t =
      let room : Room case = record { down = t.down; up = t.up } in
      let few = rw (most (same false e.reader.number)) at (numbered case hm ha room xs first most_lost false (rw (begins, ends_first) at t.few)) in
      let told : (talk m a xs e).told ≡ Message (length a) =
      rw (begins, ends_first) (live_run case hm ha room xs first most_lost (omega arith, omega arith, bt.last) (omega arith, refl)
      (rw sub-zero (omega (arith, rw (begins, ends_first) at t.enough))) t.prompt few) in
      ending_has (talk m a xs e).told (length a) told safe.end
