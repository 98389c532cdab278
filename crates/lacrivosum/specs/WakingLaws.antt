-- What waking a card by value gives, said of the lent bytes. Assumes nothing.
use Rattle.std.specs.Prelude.{◌≡◌, Bool, List, ℕ, ◌/◌, ◌<◌, ◌≤◌, length}
use Rattle.std.proofs.Math.Path.{refl, sym, ap}
use Rattle.std.proofs.Common.{◌∙◌}
use Rattle.std.proofs.Math.Bool.{true, false, false≢true}
use borrow.Author.Tests.{lt-ltb, le-ltb}
use Rattle.rows.specs.ListLaws.{both}
use Rattle.refusal.specs.declared.Refusal.TheVariants.{Room}
use Rattle.uid.specs.Calls.{uid_of}
use Rattle.uid.specs.declared.Uid.{Uid}
use Rattle.card.specs.declared.Card.{Card}
use Rattle.reader.specs.Reader.{is_new, blank}
use Rattle.reader.specs.declared.Phase.TheVariants.{Stopped}
use Rattle.reader.specs.declared.Reader.{Reader}
use Rattle.reader.specs.declared.Turn.{Turn}
use Rattle.reader_link.specs.declared.LinkReader.{LinkReader}
use Rattle.reader_link.specs.declared.LinkTurn.{LinkTurn}
use Rattle.sweep_rules.specs.Run.{Out}
use Rattle.wake_rules.specs.Claim.{Wakes}
use Rattle.wake_rules.specs.Wake.{wake}
use Rattle.wake.specs.Promise.{Terms, Wakens}
use Rattle.wake.specs.Wake as by_value
use Rattle.wake.specs.declared.Woken.{Woken}
use Rattle.kept.specs.Kept as kept
use Rattle.kept.specs.StatesLaws.{array_parts}
use Rattle.kept_reader.specs.KeptReader.{selection_of, link_of, reader_of, selection_refuses, stays, turn_left, Kept, kept_in, kept_of, kept_after}
use Rattle.kept_field.specs.KeptField.{cards_in, field_in}
use Rattle.kept_field.specs.FieldLaws.{field_front, length_field}
use Rattle.kept_wake.specs.KeptWake.{turn_of, woken_turn, woken_number, row_left, Says}
use Rattle.kept_wake.specs.WakeLaws.{refused_absent}
use Rattle.lacrivosum.specs.Field.{no_field}
use Rattle.lacrivosum.specs.SaysLaws.{refused_writes_nothing}
use Rattle.lacrivosum.specs.Waking.{WakeDone, wake_done, wake_call, wake_left, WakeUnchanged, WakeTerms, WakeSays}

-- ---- too short a state, or a row

module _ (state cards : List ℕ) (n : ℕ) (s : Woken) (x : ℕ) (room : x ≡ kept.refused Room) where
  refused_short : no_field state cards n ≡ true → wake_left state cards n s ≡ wake_done x state cards
  unfolding wake_left
  refused_short h = rw (h, room)

  pub short_state : length state < 64 → wake_left state cards n s ≡ wake_done x state cards
  short_state h = refused_short (rw (lt-ltb _ _ h))

  pub short_row : 64 ≤ length state → length cards / 64 < n → wake_left state cards n s ≡ wake_done x state cards
  short_row k h = refused_short (rw (le-ltb _ _ k, lt-ltb _ _ h))

-- ---- a call that was made: on the reader r and the array cs, which the bytes say

module _ (state uid cards : List ℕ) (n : ℕ) (s : Woken) (number : ℕ) (state₁ cards₁ : List ℕ)
    (long : 64 ≤ length state) (rows : n ≤ length cards / 64)
    (a : number ≡ woken_number s) (b : state₁ ≡ turn_left state (woken_turn (reader_of state) s))
    (k : kept_in state₁ ≡ kept_after state (woken_turn (reader_of state) s)) (d : cards₁ ≡ row_left n cards s) (says : Says n s cards₁) where
  abbrev pub before : WakeDone
  before = wake_done 0 state cards

  abbrev pub after : WakeDone
  after = wake_done number state₁ cards₁

  abbrev U : Uid
  U = (uid_of uid)

  made : s ≡ wake_call state uid cards n → wake_left state cards n (wake_call state uid cards n) ≡ after
  unfolding wake_left
  made e = rw (← e, le-ltb _ _ long, le-ltb _ _ rows, a, b, d)

  unchanged : s ≡ wake_call state uid cards n → WakeUnchanged before uid n after
  unfolding row_left
  unchanged e r h =
      let z : s ≡ by_value.refused (selection_of state) (field_in n cards) r = e ∙ h in
      let p : state₁ ≡ state = b ∙ ap (λ (y : Woken). turn_left state (woken_turn (reader_of state) y)) z ∙ refused_writes_nothing state _ refl in
      let q : cards₁ ≡ cards = d ∙ ap (row_left n cards) z in
      rw (p, q)

  -- the run o of the rules, of which the claim holds
  module _ (o : Out) (run : s ≡ by_value.done (field_in n cards) n o) (few : n ≤ 32) (new : is_new (selection_of state).phase ≡ true)
      (claim : Wakes (cards_in n cards) U o) where
    T : LinkTurn
    T = turn_of o.last.reader (link_of state) o.last.answer

    turn_is : woken_turn (reader_of state) s ≡ T
    unfolding by_value.done T
    turn_is = ap (woken_turn (reader_of state)) run

    -- refused, the reader has stopped: it is not the new one that the bytes said
    not_new : selection_refuses o.last.answer ≡ true → reader_of state ≡ T.reader → ⊥
    unfolding T
    not_new h e =
        let r : selection_of state ≡ blank Stopped false = ap (λ (y : LinkReader). y.reader) e ∙ ap (λ (t : Turn). t.reader) (refused_absent _ U o claim h).reader_stops in
        false≢true (sym (ap (λ (y : Reader). is_new y.phase) r) ∙ new)

    -- so what is told of the turn is written
    moves : (t : Bool) → stays (reader_of state) T ≡ t → kept_after state T ≡ kept_of T
    unfolding kept_after turn_left
    moves true e =
        let same : state₁ ≡ state = b ∙ ap (turn_left state) turn_is ∙ rw e in
        let r : reader_of state ≡ T.reader =
        ap reader_of (sym same) ∙ ap (λ (y : Kept). y.reader) k ∙ ap (λ (t : LinkTurn). t.reader) turn_is in
        absurd (not_new (unfold stays T in (both _ _ e).0) r)
    moves false e = rw e

    cards_say : (t : Bool) → selection_refuses o.last.answer ≡ t → cards_in n cards₁ ≡ o.cards
    unfolding row_left by_value.done
    cards_say true e =
        let h : selection_refuses s.answer ≡ true = ap (λ (y : Woken). selection_refuses y.answer) run ∙ e in
        let q : cards₁ ≡ cards = rw h at d in
        ap (cards_in n) q ∙ sym (refused_absent _ U o claim e).cards
    cards_say false e =
        let y = says (ap (λ (y : Woken). selection_refuses y.answer) run ∙ e) in
        let z = array_parts 32 n (field_in n cards) o.cards s.cards (length_field n cards) few (ap (λ (y : Woken). y.cards) run) y.1 in
        ap (λ m. cards_in m cards₁) (sym z.1) ∙ y.0 ∙ z.0

    says_of : WakeSays o n before after
    unfolding by_value.done T
    says_of =
        record {
          number = a ∙ ap woken_number run;
          state = k ∙ ap (kept_after state) turn_is ∙ moves _ refl;
          cards = cards_say _ refl;
        }

  -- what the contract says
  abbrev pub Made : Type 0
  Made =
      (wake_left state cards n (wake_call state uid cards n) ≡ after)
      × (WakeUnchanged before uid n after
      × (WakeTerms state uid cards n → WakeSays (wake U (cards_in n cards)) n before after × Wakes (cards_in n cards) U (wake U (cards_in n cards))))

  pub woken_made : (r : Reader) (cs : List Card) → r ≡ selection_of state → cs ≡ field_in n cards → s ≡ by_value.wake_of r uid cs n → Wakens r uid cs n s → Made
  woken_made r cs u v e' p' =
      let e : s ≡ wake_call state uid cards n = rw (u, v) at e' in
      let p : Wakens (selection_of state) uid (field_in n cards) n s = rw (u, v) at p' in
      let says-by : WakeTerms state uid cards n → WakeSays (wake U (cards_in n cards)) n before after × Wakes (cards_in n cards) U (wake U (cards_in n cards)) =
      λ t.
      let f = field_front n cards t.few in
      let q : Terms (selection_of state) uid (field_in n cards) n = record { new = t.new; uid = t.uid_valid; few = t.few; field = rw f t.field } in
      let c : Wakes (cards_in n cards) U (wake U (cards_in n cards)) = rw f at (p.claim q) in
      let w : s ≡ by_value.done (field_in n cards) n (wake U (cards_in n cards)) = p.run q ∙ ap (λ (l : List Card). by_value.done (field_in n cards) n (wake U l)) f in
      (says_of (wake U (cards_in n cards)) w t.few t.new c, c) in
      (made e, (unchanged e, says-by))
