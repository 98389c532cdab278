-- A row that is the first n cards of an array: what a sweep's call says of the row, it says of the array. Assumes nothing.
use Rattle.std.specs.Prelude.{◌≡◌, ℕ, ◌≤◌, Bool, true, false, cond, ◌||◌, List, ◌++◌, length, take, drop}
use Rattle.std.proofs.Common.{ap, sym, subst, ◌∙◌, append-nil, take-append-drop}
use Rattle.std.proofs.Math.Bool.{not}
use Rattle.std.proofs.Math.Seq.{take-length}
use Rattle.std.proofs.Math.Dec.{ltb}
use Rattle.limits.specs.Limits.{most_cards, log_room, list_room}
use Rattle.reader.specs.Reader.{is_new}
use Rattle.sweep_rules.specs.Demand.{Demand3}
use Rattle.sweep_rules.specs.Run.{Out, sweep}
use Rattle.sweep_rules.specs.Terms.{within}
use Rattle.sweep.proofs.CallLaws.{Promised, promised_by}
use Rattle.sweep.specs.Promise.{Terms}
use Rattle.sweep.specs.Sweep.{Call, call, refused, done, call_of}
use Rattle.card.specs.declared.Card.{Card}
use Rattle.sweep.specs.declared.Start.{Start}
use Rattle.refusal.specs.declared.Refusal.TheVariants.{Room, Argument, NotDue}
use Rattle.sweep_row.specs.declared.RowSwept.{RowSwept}
use Rattle.sweep_row.specs.PadLaws.{take_row, drop_row}
use Rattle.sweep_row.specs.Row.{swept_row}

-- the same call, over a row that more cards follow
abbrev with : List Card → Call → Call
with k c =
    record {
      swept = record {
        reader = c.swept.reader;
        answer = c.swept.answer;
        cards = c.swept.cards ++ k;
        frames = c.swept.frames;
        logged = c.swept.logged;
        found = c.swept.found;
      };
      log = c.log;
      list = c.list;
    }

module _ (start : Start) (cards : List Card) (n : ℕ) (log list : List ℕ) (long : length (take n cards) ≡ n) where
  abbrev front : List Card
  front = take n cards

  abbrev rest : List Card
  rest = drop n cards

  again : take n front ≡ front
  again = take_row n front long

  whole : front ++ rest ≡ cards
  whole = take-append-drop n cards

  runs_on : (o : Out) → with rest (done start.tick front n log list o) ≡ done start.tick cards n log list o
  unfolding done
  runs_on o = rw (drop_row n front long, append-nil)

  -- the call's three tests, over the cards k
  abbrev tests : Bool → Bool → Bool → List Card → Call → Call
  tests a b c k d = cond a (call (refused start.reader k NotDue) log list) (cond b (call (refused start.reader k Room) log list) (cond c (call (refused start.reader k Argument) log list) d))

  same_tests : (a b c : Bool) (d d' : Call) → with rest d ≡ d' → with rest (tests a b c front d) ≡ tests a b c cards d'
  same_tests true b c d d' e = ap (λ k. call (refused start.reader k NotDue) log list) whole
  same_tests false true c d d' e = ap (λ k. call (refused start.reader k Room) log list) whole
  same_tests false false true d d' e = ap (λ k. call (refused start.reader k Argument) log list) whole
  same_tests false false false d d' e = e

  -- of any sweep: W is its run
  module _ (W : List Card → Out) where
    same_call : with rest (call_of W start front n log list) ≡ call_of W start cards n log list
    unfolding call_of
    same_call =
        rw again (same_tests (not (is_new start.reader.phase)) (ltb (length log) log_room || ltb (length list) list_room) (ltb most_cards n || not (within front))
        (done start.tick front n log list (W front)) (done start.tick cards n log list (W front)) (runs_on (W front)))

    pub array_call : (s : RowSwept) (after : List Card) (log₁ list₁ : List ℕ) → call (swept_row s after) log₁ list₁ ≡ call_of W start front (length front) log list
        → call (swept_row s (after ++ rest)) log₁ list₁ ≡ call_of W start cards n log list
    array_call s after log₁ list₁ e = ap (with rest) (e ∙ ap (λ m. call_of W start front m log list) long) ∙ same_call

  -- and what is known of the run over the row, by its terms
  pub array_claim : (C : List Card → Type 0) → (Terms start front (length front) log list → C (take (length front) front)) → Terms start cards n log list → C front
  array_claim C k t =
      let e : take (length front) front ≡ front = take-length front in
      let few : Terms start front (length front) log list = record { new = t.new; log_has_room = t.log_has_room; list_has_room = t.list_has_room; few = subst (λ m. m ≤ most_cards) (sym long) t.few; field = ap within e ∙ t.field } in
      subst C e (k few)

  -- of the plain one
  pub array_promised : (s : RowSwept) (after : List Card) (log₁ list₁ : List ℕ) → Promised start front (length front) log list (swept_row s after) log₁ list₁
      → Promised start cards n log list (swept_row s (after ++ rest)) log₁ list₁
  array_promised s after log₁ list₁ p =
      promised_by start cards n log list (swept_row s (after ++ rest)) log₁ list₁ (array_call sweep s after log₁ list₁ p.0) (array_claim (λ k. Demand3 k (sweep k)) p.1.demand3)
