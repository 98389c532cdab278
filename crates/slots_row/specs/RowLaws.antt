-- A row whose cards are the first of an array: what the request over the array says of them, it says of the row. Assumes nothing.
use Rattle.std.specs.Prelude.{◌≡◌, ℕ, zero, suc, ◌<◌, Bool, cond, ◌||◌}
use Rattle.std.proofs.Math.Path.{refl, sym, ap}
use Rattle.std.proofs.Common.{subst, ◌∙◌, arith, take-append-drop}
use Rattle.std.proofs.Math.Bool.{true, false, not}
use mathlib.Core.List.{List, [], ◌++◌, append-nil}
use Rattle.std.proofs.Math.ListN.{length, take, drop, length-append, drop_of_length-le}
use Rattle.std.proofs.lemmas.List.{length-map}
use Rattle.std.proofs.Math.Seq.{take_at, take-length}
use Rattle.std.proofs.Math.Dec.{ltb}
use borrow.Author.Tests.{lt-ltb}
use Rattle.limits.specs.Limits.{most_cards}
use Rattle.frame_b.specs.LimitsB.{list_room_b}
use Rattle.refusal.specs.Refusal.{Said, decline_if}
use Rattle.reader_b.specs.ReaderB.{is_ready, opens, hear}
use Rattle.field_b.specs.FieldB.{all_take, heard_from}
use Rattle.slots_rules.specs.Claim as claims
use Rattle.slots_rules.specs.RunB.{Out, before, ended, follow, out_frame, run, inquiry}
use Rattle.slots_rules.specs.TermsB.{within}
use Rattle.slots.specs.Inquiry.{Call, call, refused, done, inquiry_of}
use Rattle.slots.specs.Promise.{Terms, answer_says}
use Rattle.slots.specs.declared.Inquired.{Inquired}
use Rattle.field_b.specs.declared.Drawn.{Drawn}
use Rattle.reader_b.specs.declared.AnswerB.{AnswerB}
use Rattle.reader_b.specs.declared.AnswerB.TheVariants.{Sends, Marks, Ends, Attached, Halted, Declines}
use Rattle.reader_b.specs.declared.ReaderB.{ReaderB}
use Rattle.reader_b.specs.declared.TurnB.{TurnB}
use Rattle.refusal.specs.declared.Refusal.{Refusal}
use Rattle.refusal.specs.declared.Refusal.TheVariants.{Room, Argument, NotDue}
use Rattle.slots_row.specs.declared.request.Request.{Request}
use Rattle.slots_row.specs.Row.{inquired_row, row_of, Promises}

-- ---- a run has as many cards at its end as at its start

follow_cards : (a : AnswerB) (t : TurnB) (ds : List Drawn) (o : Out) → length o.cards ≡ length ds → length (follow a t ds o).cards ≡ length ds
unfolding before ended
follow_cards (Sends n) t ds o e = e
follow_cards (Marks k) t ds o e = e
follow_cards (Ends k) t ds o e = refl
follow_cards (Attached m) t ds o e = refl
follow_cards Halted t ds o e = refl
follow_cards (Declines x) t ds o e = refl

run_cards : (wake : Bool) (afi fuel : ℕ) (t : TurnB) (ds : List Drawn) → length (run wake afi fuel t ds).cards ≡ length ds
unfolding run ended all_take
run_cards wake afi zero t ds = refl
run_cards wake afi (suc fuel) t ds =
    let f : List ℕ = out_frame wake afi t.reader in
    let t' : TurnB = hear t.reader (heard_from f ds) in
    follow_cards t'.answer t' (all_take f ds) (run wake afi fuel t' (all_take f ds)) (run_cards wake afi fuel t' (all_take f ds)) ∙ length-map ds _

inquiry_cards : (wake : Bool) (n afi : ℕ) (ds : List Drawn) → length (inquiry wake n afi ds).cards ≡ length ds
unfolding inquiry
inquiry_cards wake n afi ds = run_cards wake afi n (opens n) ds

-- what the call gave, with other cards
abbrev pub over : (Inquired → List Drawn) → Call → Call
over f c = call (inquired_row (row_of c.inquired) (f c.inquired)) c.list

module _ (k : Request) where
  abbrev r : ReaderB
  r = k.reader

  abbrev pub run_of : List Drawn → Out
  run_of ds = inquiry k.wake k.slots k.afi ds

  -- two of the call's three tests
  abbrev pub early : Bool
  early = not (is_ready r.phase)

  abbrev pub short : List ℕ → Bool
  short list = ltb (length list) list_room_b

  -- the call by its tests, over an array whose first cards are the field ds; and its numbers
  abbrev pub by_tests : Bool → Bool → Bool → List Drawn → ℕ → List ℕ → List Drawn → Call
  by_tests a b d cards n list ds =
      cond a (call (refused r cards NotDue) list) (cond b (call (refused r cards Room) list) (cond d (call (refused r cards Argument) list) (done cards n list (run_of ds))))

  abbrev pub says_by_tests : Bool → Bool → Bool → List Drawn → Said
  says_by_tests a b d ds = decline_if a 11 (decline_if b 1 (decline_if d 6 (answer_says (run_of ds).last.answer)))

  -- it may be told of other cards where the refusals and the run may
  pub same_tests : (f : Inquired → List Drawn) (h ys : List Drawn) (n : ℕ) (list : List ℕ) (ds : List Drawn) → ((e : Refusal) → f (refused r h e) ≡ ys)
      → over f (done h n list (run_of ds)) ≡ done ys n list (run_of ds) → (a b d : Bool) → over f (by_tests a b d h n list ds) ≡ by_tests a b d ys n list ds
  same_tests f h ys n list ds is run true b d = ap (λ x. call (refused r x NotDue) list) (is NotDue)
  same_tests f h ys n list ds is run false true d = ap (λ x. call (refused r x Room) list) (is Room)
  same_tests f h ys n list ds is run false false true = ap (λ x. call (refused r x Argument) list) (is Argument)
  same_tests f h ys n list ds is run false false false = run

  -- the request leaves as many cards as there were
  pub made_cards : (h : List Drawn) (n : ℕ) (list : List ℕ) → length (inquiry_of r k.wake k.slots k.afi h n list).inquired.cards ≡ length h
  unfolding inquiry_of done
  made_cards h n list = go early (short list) (ltb most_cards n || not (within k.slots (take n h)))
    where
      go : (a b d : Bool) → length (by_tests a b d h n list (take n h)).inquired.cards ≡ length h
      go true b d = refl
      go false true d = refl
      go false false true = refl
      go false false false = rw (length-append, inquiry_cards, ← length-append, take-append-drop)

  -- ---- the row of n cards ys, and an array h

  module _ (h ys : List Drawn) (n : ℕ) (list : List ℕ) (size : length ys ≡ n) (s : Inquired) (list₁ : List ℕ) (m : Promises k h n list s list₁) where
    -- more cards than the limit: the row stays as it was
    pub too_many : most_cards < n → Promises k ys n list (inquired_row (row_of s) ys) list₁
    unfolding inquiry_of
    too_many many =
        let t : ltb most_cards n ≡ true = lt-ltb most_cards n many in (
          ap (over (λ x. ys)) m.0 ∙ rw t (go early (short list)),
          record {
            says = m.1.says ∙ rw t (same early (short list));
            run = λ terms. absurd (omega (arith, terms.few));
            claim = λ terms. absurd (omega (arith, terms.few));
          },
        )
      where
        go : (a b : Bool) → over (λ x. ys) (by_tests a b true h n list (take n h)) ≡ by_tests a b true ys n list (take n ys)
        go true b = refl
        go false true = refl
        go false false = refl

        same : (a b : Bool) → says_by_tests a b true (take n h) ≡ says_by_tests a b true (take n ys)
        same true b = refl
        same false true = refl
        same false false = refl

    -- the row is the first n cards of the array
    module _ (first : take n h ≡ ys) where
      one : take n ys ≡ take n h
      one = subst (λ i. take i ys ≡ ys) size (take-length ys) ∙ sym first

      abbrev front : Inquired → List Drawn
      front x = take n x.cards

      done_row : over front (done h n list (run_of (take n h))) ≡ done ys n list (run_of (take n h))
      unfolding done
      done_row =
          let o : Out = run_of (take n h) in
          let e : length o.cards ≡ n = inquiry_cards k.wake k.slots k.afi (take n h) ∙ ap length first ∙ size in
          let none : drop n ys ≡ [] = drop_of_length-le ys {i = n} (omega (arith, size)) in
          let c : take n (o.cards ++ drop n h) ≡ o.cards ++ drop n ys = take_at o.cards (drop n h) n e ∙ sym (ap (λ x. o.cards ++ x) none ∙ append-nil o.cards) in
          rw c

      is_call : over front (inquiry_of r k.wake k.slots k.afi h n list) ≡ inquiry_of r k.wake k.slots k.afi ys n list
      unfolding inquiry_of
      is_call = rw one (same_tests front h ys n list (take n h) (λ e. first) done_row early (short list) (ltb most_cards n || not (within k.slots (take n h))))

      terms_too : Terms r k.slots k.afi ys n list → Terms r k.slots k.afi h n list
      terms_too t = record { ready = t.ready; room = t.room; few = t.few; field = subst (claims.Terms k.slots k.afi) one t.field }

      pub carried : Promises k ys n list (inquired_row (row_of s) (take n s.cards)) list₁
      carried = (
        ap (over front) m.0 ∙ is_call,
        record {
          says = m.1.says ∙ ap (λ x. says_by_tests early (short list) (ltb most_cards n || not (within k.slots x)) x) (sym one);
          run = λ t. ap (over front) (m.1.run (terms_too t)) ∙ done_row ∙ ap (λ x. done ys n list (run_of x)) (sym one);
          claim = λ t. subst (λ x. claims.Claim k.slots x (run_of x)) (sym one) (m.1.claim (terms_too t));
        },
      )
