-- What a sweep by value gives, said of the lent bytes. Assumes nothing.
use Rattle.std.specs.Prelude.{◌≡◌, refl, Bool, cond, not, ◌||◌, List, ◌++◌, ℕ, ◌/◌, ◌<◌, ◌≤◌, length, take, ltb}
use Rattle.std.proofs.Common.{sym, ◌∙◌}
use Rattle.std.proofs.Math.Path.{ap}
use Rattle.std.proofs.Math.Bool.{true, false}
use Rattle.std.proofs.lemmas.Bool.{false≢true}
use Rattle.std.proofs.Math.ListN.{drop}
use borrow.Author.Tests.{lt-ltb, le-ltb, ltb-false, not-false}
use Rattle.limits.specs.Limits.{most_cards, log_room, list_room}
use Rattle.refusal.specs.declared.Refusal.TheVariants.{Room, Argument, NotDue}
use Rattle.card.specs.declared.Card.{Card}
use Rattle.reader.specs.Reader.{is_new, turn, blank}
use Rattle.reader.specs.declared.Phase.TheVariants.{Finished}
use Rattle.reader.specs.declared.Answer.TheVariants.{Finishes}
use Rattle.reader.specs.declared.Reader.{Reader}
use Rattle.reader.specs.declared.Turn.{Turn}
use Rattle.sweep_rules.specs.Demand.{Demand3}
use Rattle.sweep_rules.specs.Run.{Out, sweep}
use Rattle.sweep_rules.specs.Terms.{within}
use Rattle.memory_rules.specs.Promise.{Remembers}
use Rattle.memory_rules.specs.Run.{recalled}
use Rattle.sweep.specs.Sweep.{Call, call, refused, done, call_of, sweep_of}
use Rattle.sweep.specs.Promise.{Terms, Sweeps}
use Rattle.sweep.specs.declared.Start.{Start}
use Rattle.sweep.specs.declared.Swept.{Swept}
use Rattle.memory_sweep.specs.Recalled.{recall_of}
use Rattle.memory_sweep.specs.Promise.{Recalls}
use Rattle.kept.specs.Kept as kept
use Rattle.kept.specs.StatesLaws.{array_parts}
use Rattle.kept_reader.specs.KeptReader.{link_of, selection_refuses}
use Rattle.kept_field.specs.KeptField.{start_in, cards_in, field_in, swept_kept, swept_number, state_left, row_left, Says}
use Rattle.kept_field.specs.FieldLaws.{field_front, length_field}
use Rattle.lacrivosum.specs.Field.{FieldDone, field_done, no_field, sweep_done, Unchanged, FieldTerms, FieldSays}

-- ---- too short a state, or a row

module _ (state cards : List ℕ) (n : ℕ) (log list : List ℕ) (c : Call) (x : ℕ) (room : x ≡ kept.refused Room) where
  refused_short : no_field state cards n ≡ true → sweep_done state cards n log list c ≡ field_done x state cards log list
  unfolding sweep_done
  refused_short h = rw (h, room)

  pub short_state : length state < 64 → sweep_done state cards n log list c ≡ field_done x state cards log list
  short_state h = refused_short (rw (lt-ltb _ _ h))

  pub short_row : 64 ≤ length state → length cards / 64 < n → sweep_done state cards n log list c ≡ field_done x state cards log list
  short_row k h = refused_short (rw (le-ltb _ _ k, lt-ltb _ _ h))

-- ---- a sweep that was made

-- refused, the call by value c leaves log and list
abbrev pub Stays : List ℕ → List ℕ → Call → Type 0
Stays log list c = selection_refuses c.swept.answer ≡ true → (c.log ≡ log) × (c.list ≡ list)

module _ (state cards : List ℕ) (n : ℕ) (log list : List ℕ) where
  pub swept_done : (c : Call) (s : Swept) (x : ℕ) (state₁ cards₁ log₁ list₁ : List ℕ) → 64 ≤ length state → n ≤ length cards / 64
      → call s log₁ list₁ ≡ c → x ≡ swept_number s → state₁ ≡ state_left state s → cards₁ ≡ row_left n cards s
      → sweep_done state cards n log list c ≡ field_done x state₁ cards₁ log₁ list₁
  unfolding sweep_done
  swept_done c s x state₁ cards₁ log₁ list₁ h k e a b d = rw (← e, le-ltb _ _ h, le-ltb _ _ k, a, b, d)

  -- by a call that is refused and leaves log and list, nothing is written
  swept_unchanged : (c : Call) (s : Swept) (x : ℕ) (state₁ cards₁ log₁ list₁ : List ℕ) → call s log₁ list₁ ≡ c → state₁ ≡ state_left state s
      → cards₁ ≡ row_left n cards s → Stays log list c
      → Unchanged (field_done 0 state cards log list) c (field_done x state₁ cards₁ log₁ list₁)
  unfolding state_left row_left
  swept_unchanged c s x state₁ cards₁ log₁ list₁ e a b stay h =
      let g : selection_refuses s.answer ≡ true = ap (λ (y : Call). selection_refuses y.swept.answer) e ∙ h in
      let p : state₁ ≡ state = rw g at a in
      let q : cards₁ ≡ cards = rw g at b in
      let u : log₁ ≡ log = ap (λ (y : Call). y.log) e ∙ (stay h).0 in
      let v : list₁ ≡ list = ap (λ (y : Call). y.list) e ∙ (stay h).1 in
      rw (p, q, u, v)

  -- within the terms, what the bytes say after the run o
  field_says : (o : Out) (t x : ℕ) (s : Swept) (state₁ cards₁ log₁ list₁ : List ℕ) → n ≤ 32
      → selection_refuses o.last.answer ≡ false → call s log₁ list₁ ≡ done t (field_in n cards) n log list o → x ≡ swept_number s
      → Says state n s state₁ cards₁ → FieldSays o t n (field_done 0 state cards log list) (field_done x state₁ cards₁ log₁ list₁)
  unfolding done
  field_says o t x s state₁ cards₁ log₁ list₁ few fin e a says =
      let no : selection_refuses s.answer ≡ false = ap (λ (c : Call). selection_refuses c.swept.answer) e ∙ fin in
      let y = says no in
      let g : s.cards ≡ o.cards ++ drop n (field_in n cards) = ap (λ (c : Call). c.swept.cards) e in
      let z = array_parts 32 n (field_in n cards) o.cards s.cards (length_field n cards) few g y.2 in
      record {
        number = rw no at a ∙ ap (λ (c : Call). c.swept.found) e;
        state = y.0 ∙ ap (λ (c : Call). swept_kept c.swept.reader (link_of state) c.swept.logged c.swept.frames) e;
        cards = ap (λ k. cards_in k cards₁) (sym z.1) ∙ y.1 ∙ z.0;
        log = ap (λ (c : Call). c.log) e;
        list = ap (λ (c : Call). c.list) e;
      }

-- ---- the tests of both calls by value, 11, 1 and 6: refused by one of them, a call leaves log and list

tested : (a b d : Bool) (r : Reader) (cs : List Card) (log list : List ℕ) (k : Call)
    → (a ≡ false → b ≡ false → d ≡ false → selection_refuses k.swept.answer ≡ false)
    → Stays log list
    (cond a (call (refused r cs NotDue) log list) (cond b (call (refused r cs Room) log list) (cond d (call (refused r cs Argument) log list) k)))
tested true b d r cs log list k good h = (refl, refl)
tested false true d r cs log list k good h = (refl, refl)
tested false false true r cs log list k good h = (refl, refl)
tested false false false r cs log list k good h = absurd (false≢true (sym (good refl refl refl) ∙ h))

-- where no test applies, the terms hold
either : (a b : Bool) → (a || b) ≡ false → (a ≡ false) × (b ≡ false)
either false b h = (refl, h)
either true b h = absurd (false≢true (sym h))

no_test : (start : Start) (cs : List Card) (n : ℕ) (log list : List ℕ) → not (is_new start.reader.phase) ≡ false
    → (ltb (length log) log_room || ltb (length list) list_room) ≡ false → (ltb most_cards n || not (within (take n cs))) ≡ false → Terms start cs n log list
no_test start cs n log list a b d =
    let r = either (ltb (length log) log_room) (ltb (length list) list_room) b in
    let f = either (ltb most_cards n) (not (within (take n cs))) d in
    record {
      new = not-false _ a;
      log_has_room = ltb-false (length log) log_room r.0;
      list_has_room = ltb-false (length list) list_room r.1;
      few = ltb-false most_cards n f.0;
      field = not-false _ f.1;
    }

-- ---- both sweeps

terms_of : (state cards : List ℕ) (n t : ℕ) (log list : List ℕ) → FieldTerms state cards n log list → Terms (start_in state t) (field_in n cards) n log list
terms_of state cards n t log list h =
    record { new = h.new; log_has_room = h.log_has_room; list_has_room = h.list_has_room; few = h.few; field = rw (field_front n cards h.few) h.field }

-- a run that ends as a finished sweep is not refused
finishes : (o : Out) → o.last ≡ turn (blank Finished false) Finishes → selection_refuses o.last.answer ≡ false
finishes o h = ap (λ (u : Turn). selection_refuses u.answer) h

done_finishes : (t : ℕ) (cs : List Card) (n : ℕ) (log list : List ℕ) (o : Out) → o.last ≡ turn (blank Finished false) Finishes
    → selection_refuses (done t cs n log list o).swept.answer ≡ false
unfolding done
done_finishes t cs n log list o h = finishes o h

module _ (start : Start) (cs : List Card) (n : ℕ) (log list : List ℕ) where
  plain_stays : (s : Swept) (log₁ list₁ : List ℕ) → Sweeps start cs n log list s log₁ list₁
      → Stays log list (sweep_of start cs n log list)
  unfolding call_of
  plain_stays s log₁ list₁ p =
      tested _ _ _ start.reader cs log list (done start.tick cs n log list (sweep (take n cs)))
      (λ a b d. done_finishes start.tick cs n log list (sweep (take n cs)) (p.demand3 (no_test start cs n log list a b d)).finished)

  recall_stays : (s : Swept) (log₁ list₁ : List ℕ) → Recalls start cs n log list s log₁ list₁
      → Stays log list (recall_of start cs n log list)
  unfolding call_of
  recall_stays s log₁ list₁ p =
      tested _ _ _ start.reader cs log list (done start.tick cs n log list (recalled (take n cs)))
      (λ a b d. done_finishes start.tick cs n log list (recalled (take n cs)) (p.remembers (no_test start cs n log list a b d)).finished)

module _ (state cards : List ℕ) (n t : ℕ) (log list : List ℕ) (s : Swept) (x : ℕ) (state₁ cards₁ log₁ list₁ : List ℕ)
    (h : 64 ≤ length state) (k : n ≤ length cards / 64)
    (a : x ≡ swept_number s) (b : state₁ ≡ state_left state s) (d : cards₁ ≡ row_left n cards s) (says : Says state n s state₁ cards₁) where
  abbrev pub before : FieldDone
  before = field_done 0 state cards log list

  abbrev pub after : FieldDone
  after = field_done x state₁ cards₁ log₁ list₁

  -- what a contract says of a sweep that gives c by value and runs by o, of which P holds
  abbrev pub Made : Call → Out → Type 0 → Type 0
  Made c o P =
      (sweep_done state cards n log list c ≡ after) × (Unchanged before c after × (FieldTerms state cards n log list → FieldSays o t n before after × P))

  made : (c : Call) (o : Out) (P : Type 0) → call s log₁ list₁ ≡ c → Stays log list c
      → (FieldTerms state cards n log list
      → (call s log₁ list₁ ≡ done t (field_in n cards) n log list o) × (o.last ≡ turn (blank Finished false) Finishes) × P)
      → Made c o P
  made c o P e stay ran =
      let says_of : FieldTerms state cards n log list → FieldSays o t n before after × P =
      λ terms.
      let r = ran terms in
      (field_says state cards n log list o t x s state₁ cards₁ log₁ list₁ terms.few (finishes o r.1) r.0 a says, r.2) in (
        swept_done state cards n log list c s x state₁ cards₁ log₁ list₁ h k e a b d,
        (swept_unchanged state cards n log list c s x state₁ cards₁ log₁ list₁ e b d stay, says_of),
      )

  -- the call by value was made on the values start and cs, which the bytes say
  module _ (start : Start) (cs : List Card) (u : start ≡ start_in state t) (v : cs ≡ field_in n cards) where
    pub plain_made : call s log₁ list₁ ≡ sweep_of start cs n log list → Sweeps start cs n log list s log₁ list₁
        → Made (sweep_of (start_in state t) (field_in n cards) n log list) (sweep (cards_in n cards)) (Demand3 (cards_in n cards) (sweep (cards_in n cards)))
    plain_made e' p' =
        let e : call s log₁ list₁ ≡ sweep_of (start_in state t) (field_in n cards) n log list = rw (u, v) at e' in
        let p : Sweeps (start_in state t) (field_in n cards) n log list s log₁ list₁ = rw (u, v) at p' in
        made _ _ _ e (plain_stays (start_in state t) (field_in n cards) n log list s log₁ list₁ p)
        (λ terms.
        let f = field_front n cards terms.few in
        let q = terms_of state cards n t log list terms in
        let holds : Demand3 (cards_in n cards) (sweep (cards_in n cards)) = rw f at (p.demand3 q) in
        (p.run q ∙ ap (λ (l : List Card). done t (field_in n cards) n log list (sweep l)) f, holds.finished, holds))

    pub recall_made : call s log₁ list₁ ≡ recall_of start cs n log list → Recalls start cs n log list s log₁ list₁
        → Made (recall_of (start_in state t) (field_in n cards) n log list) (recalled (cards_in n cards))
        (Remembers (cards_in n cards) (recalled (cards_in n cards)))
    recall_made e' p' =
        let e : call s log₁ list₁ ≡ recall_of (start_in state t) (field_in n cards) n log list = rw (u, v) at e' in
        let p : Recalls (start_in state t) (field_in n cards) n log list s log₁ list₁ = rw (u, v) at p' in
        made _ _ _ e (recall_stays (start_in state t) (field_in n cards) n log list s log₁ list₁ p)
        (λ terms.
        let f = field_front n cards terms.few in
        let q = terms_of state cards n t log list terms in
        let holds : Remembers (cards_in n cards) (recalled (cards_in n cards)) = rw f at (p.remembers q) in
        (p.run q ∙ ap (λ (l : List Card). done t (field_in n cards) n log list (recalled l)) f, holds.finished, holds))
