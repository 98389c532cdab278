-- What a request by value gives, said of the lent bytes. Assumes nothing.
use Rattle.std.specs.Prelude.{◌≡◌, refl, Bool, false, List, map, ℕ, zero, suc, ◌/◌, ◌<◌, ◌≤◌, length}
use Rattle.std.proofs.Common.{sym, ◌∙◌, arith}
use Rattle.std.proofs.Math.Path.{ap}
use Rattle.std.proofs.Math.Bool.{true}
use Rattle.std.proofs.lemmas.List.{length-map}
use borrow.Author.Tests.{lt-ltb, le-ltb}
use Rattle.refusal.specs.declared.Refusal.{Refusal}
use Rattle.refusal.specs.declared.Refusal.TheVariants.{Room}
use Rattle.rows.specs.ListLaws.{same_refl}
use Rattle.selection_b.specs.SlotsLaws.{slots_least, slots_most}
use Rattle.selection_b.specs.TypeB.{is_slots}
use Rattle.reader_b.specs.ReaderB.{is_ready, opens}
use Rattle.reader_b.specs.declared.ReaderB.{ReaderB}
use Rattle.field_b.specs.declared.Drawn.{Drawn}
use Rattle.slots_rules.specs.Claim.{Claim, slots_from}
use Rattle.slots_rules.specs.RunB.{Out, inquiry}
use Rattle.slots.specs.Inquiry as by_value
use Rattle.slots.specs.Promise.{Terms, Inquires}
use Rattle.slots.specs.declared.Inquired.{Inquired}
use Rattle.kept.specs.Kept as kept
use Rattle.kept.specs.StatesLaws.{array_parts}
use Rattle.kept_b.specs.KeptReaderB.{reader_bytes, reader_in, answer_refuses, stays, turn_left, kept_in, kept_of, kept_after}
use Rattle.kept_b.specs.KeptReaderBLaws.{moves_by}
use Rattle.kept_slots.specs.KeptSlots.{drawn_in, field_in, cards_in, card_of, inquired_turn, turn_by, inquired_number, row_left, Says}
use Rattle.kept_slots.specs.SlotsLaws.{field_front, length_field}
use Rattle.kept_slots.specs.EndLaws.{Finishes, inquiry_finishes, kept_last}
use Rattle.lacrivosum.specs.CardLibrary.{speaks}
use Rattle.lacrivosum.specs.Field.{no_field}
use Rattle.lacrivosum.specs.Inquiries.{InquiryDone, inquiry_done, Asked, inquiry_call, inquiry_left, InquiryUnchanged, InquiryKept, InquiryTerms, InquirySays}

-- ---- too short a state, or a row

module _ (q : Asked) (b : InquiryDone) where
  abbrev Short : Type 0
  Short = no_field b.state b.cards (length q.numbers) ≡ true

  pub no_state : length b.state < 64 → Short
  no_state h = rw (lt-ltb _ _ h)

  pub no_row : 64 ≤ length b.state → length b.cards / 64 < length q.numbers → Short
  no_row k h = rw (le-ltb _ _ k, lt-ltb _ _ h)

  pub refused_short : (c : by_value.Call) (x : ℕ) → x ≡ kept.refused Room → Short → inquiry_left q b c ≡ inquiry_done x b.state b.cards b.list
  unfolding inquiry_left
  refused_short c x room h = rw (h, room)

-- ---- a request that was made

slots_count : (s k : ℕ) → length (slots_from s k) ≡ k
unfolding slots_from
slots_count s zero = refl
slots_count s (suc k) = ap suc (slots_count (suc s) k)

module _ (q : Asked) (state cards list : List ℕ) (s : Inquired) (number : ℕ) (state₁ cards₁ list₁ : List ℕ)
    (long : 64 ≤ length state) (rows : length q.numbers ≤ length cards / 64)
    (a : number ≡ inquired_number s.answer s.slots) (b : state₁ ≡ turn_left state (turn_by s list₁))
    (k : kept_in state₁ ≡ kept_after state (turn_by s list₁)) (d : cards₁ ≡ row_left (reader_in state) (length q.numbers) cards s list₁)
    (says : Says (reader_in state) (length q.numbers) s list₁ cards₁) where
  abbrev pub before : InquiryDone
  before = inquiry_done 0 state cards list

  abbrev pub after : InquiryDone
  after = inquiry_done number state₁ cards₁ list₁

  abbrev field : List Drawn
  field = field_in q.numbers cards

  abbrev run : Out
  run = inquiry (speaks q.wake) q.n q.afi (drawn_in q.numbers cards)

  module _ (e : by_value.call s list₁ ≡ inquiry_call q before) where
    made : inquiry_left q before (inquiry_call q before) ≡ after
    unfolding inquiry_left
    made = rw (← e, le-ltb _ _ long, le-ltb _ _ rows, a, b, d)

    -- declined before a frame is sent, the reader stays what it was
    still : (r : Refusal) → stays (reader_in state) (turn_by (by_value.refused (reader_in state) field r) list) ≡ true
    unfolding stays inquired_turn
    still r = same_refl (reader_bytes (reader_in state))

    unchanged : InquiryUnchanged q before after
    unfolding row_left turn_left
    unchanged r h =
        let z : by_value.call s list₁ ≡ by_value.call (by_value.refused (reader_in state) field r) list = e ∙ h in
        let t : turn_by s list₁ ≡ turn_by (by_value.refused (reader_in state) field r) list = ap (λ (c : by_value.Call). turn_by c.inquired c.list) z in
        let same : stays (reader_in state) (turn_by s list₁) ≡ true = rw t (still r) in
        let p : state₁ ≡ state = rw same at b in
        let c : cards₁ ≡ cards = rw same at d in
        let l : list₁ ≡ list = ap (λ (c : by_value.Call). c.list) z in
        rw (p, c, l)

    kept_by : InquiryKept q before after (inquiry_call q before)
    kept_by = record { state = rw (← e) k; cards = rw (← e) says }

  -- the run o of the rules, of which the claim holds
  module _ (o : Out) (ran : by_value.call s list₁ ≡ by_value.done field (length q.numbers) list o) (few : length q.numbers ≤ 32)
      (some : is_slots q.n ≡ true) (claim : Claim q.n (drawn_in q.numbers cards) o) (ends : Finishes (opens q.n) o) where
    -- the reader is ready again, so it declined nothing
    good : (t : Bool) → answer_refuses o.last.answer ≡ t → t ≡ false
    good true h = ap (λ (r : ReaderB). is_ready r.phase) (sym claim.ended ∙ ends.stops h)
    good false h = refl

    answered : answer_refuses o.last.answer ≡ false
    answered = good _ refl

    count : length o.slots ≡ q.n
    count = ap length claim.slots ∙ length-map (slots_from 1 q.n) _ ∙ slots_count 1 q.n

    -- what is kept is the run's last turn
    last : turn_by s list₁ ≡ o.last
    unfolding by_value.done
    last =
        ap (λ (c : by_value.Call). turn_by c.inquired c.list) ran
        ∙ kept_last (opens q.n) o list ends answered (omega (arith, count, slots_least q.n some)) (omega (arith, count, slots_most q.n some))

    moves : stays (reader_in state) (turn_by s list₁) ≡ false
    moves = rw last (sym (moves_by (reader_in state) _ answered))

    says_of : InquirySays q o before after
    unfolding by_value.done kept_after
    says_of =
        let y = says moves in
        let z = array_parts 32 (length q.numbers) field o.cards s.cards (length_field q.numbers cards) few (ap (λ (c : by_value.Call). c.inquired.cards) ran) y.1 in
        let m : inquired_number o.last.answer (length o.slots) ≡ q.n = rw answered count in
        record {
          number = a ∙ ap (λ (c : by_value.Call). inquired_number c.inquired.answer c.inquired.slots) ran ∙ m;
          state = k ∙ rw moves (ap kept_of last);
          cards = ap (λ i. cards_in i cards₁) (sym z.1) ∙ y.0 ∙ ap (map card_of) z.0;
          list = ap (λ (c : by_value.Call). c.list) ran;
        }

  -- what the contract says
  abbrev pub Made : Type 0
  Made =
      (inquiry_left q before (inquiry_call q before) ≡ after)
      × (InquiryUnchanged q before after
      × ((no_field state cards (length q.numbers) ≡ false → InquiryKept q before after (inquiry_call q before))
      × (InquiryTerms q before → InquirySays q run before after × Claim q.n (drawn_in q.numbers cards) run)))

  -- the call by value was made on the values r, w and ds, which the bytes say
  pub inquiry_made : (r : ReaderB) (w : Bool) (ds : List Drawn) → r ≡ reader_in state → w ≡ speaks q.wake → ds ≡ field
      → by_value.call s list₁ ≡ by_value.inquiry_of r w q.n q.afi ds (length q.numbers) list
      → Inquires r w q.n q.afi ds (length q.numbers) list s list₁ → Made
  inquiry_made r w ds u v x e' p' =
      let e : by_value.call s list₁ ≡ inquiry_call q before = rw (u, v, x) at e' in
      let p : Inquires (reader_in state) (speaks q.wake) q.n q.afi field (length q.numbers) list s list₁ = rw (u, v, x) at p' in
      let says-by : InquiryTerms q before → InquirySays q run before after × Claim q.n (drawn_in q.numbers cards) run =
      λ t.
      let f = field_front q.numbers cards t.few in
      let h : Terms (reader_in state) q.n q.afi field (length q.numbers) list =
      record { ready = t.ready; room = t.list_has_room; few = t.few; field = rw f t.field } in
      let c : Claim q.n (drawn_in q.numbers cards) run = rw f at (p.claim h) in
      let g = p.run h ∙ ap (λ (l : List Drawn). by_value.done field (length q.numbers) list (inquiry (speaks q.wake) q.n q.afi l)) f in
      (says_of run g t.few t.field.slots c (inquiry_finishes (speaks q.wake) q.afi q.n (drawn_in q.numbers cards)), c) in
      (made e, (unchanged e, (λ h. kept_by e, says-by)))
