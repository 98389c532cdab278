-- A pass in which the cards of a row take the frame that is out. Its end is one exchange of the sweep. Assumes nothing.
use mathlib.Core.Path.{◌≡◌, refl, sym, ap, ap₂, subst, ◌∙◌}
use Prim.Native.Nat.{ℕ, suc, ◌+◌, ◌-◌, ◌*◌, ◌≤◌, ◌<◌}
use native.Mathlib.Omega.{arith}
use mathlib.Core.Bool.{Bool, true, false}
use mathlib.Core.List.{List, ◌++◌}
use lib.ListN.{length, take, get_or, set, replicate, length-append, length-take}
use lib.Seq.{take_at}
use Rattle.rows.specs.EachLaws.{length_fill}
use Rattle.rows.specs.Rows.{overlay}
use Rattle.uid.specs.Uid.{byte_count, uid_bytes}
use Rattle.uid.specs.declared.Uid.{Uid}
use Rattle.uid.specs.declared.UidSize.{UidSize}
use Rattle.uid.specs.declared.UidSize.TheVariants.{Single, Double, Triple}
use Rattle.card.specs.Card.{takes}
use Rattle.reader.specs.Reader.{frame}
use Rattle.memory.specs.Memory.{Recall, recall, hear_if}
use Rattle.memory.specs.Stored.{path_of, stored}
use Rattle.memory.proofs.StoredLaws.{path_at}
use Rattle.reader.specs.declared.Turn.{Turn}
use Rattle.reader.specs.declared.Answer.{Answer}
use Rattle.reader.specs.declared.Answer.TheVariants.{Sends, Finds, Selects, Finishes, Declines}
use Rattle.field.specs.Calls.{cards_after}
use Rattle.field.specs.Field.{all_take, heard_from}
use Rattle.field.specs.TakeLaws as take-laws
use Rattle.air_log.specs.Log.{Exchange, exchange_bytes, exchange_size, log_size, list_bytes, entry_bytes, sent_heard}
use Rattle.limits.specs.Limits.{most_cards}
use Rattle.sweep_steps.specs.Loop.{sweeper, swept_if}
use Rattle.sweep_steps.specs.RunLaws as run-laws
use Rattle.sweep_steps.specs.Steps as steps
use Rattle.card.specs.declared.Card.{Card}
use Rattle.sweep.specs.declared.Start.{Start}
use Rattle.sweep_row.specs.declared.air.Air.{Air}
use Rattle.sweep_row.specs.declared.within.Progress.{Progress}
use Rattle.sweep_row.specs.PadLaws.{take_padded, drop_padded, padded_after, length_after, take_start, take_next, heard_all_law, row_all}
use Rattle.sweep_row.specs.Row.{swept_row, no_card, silence, heard_in, air_with, row_tick, exchange_with, heard_by, finished, Roomy, goes_on, again, onward, Ready}
use Rattle.sweep_row.specs.Under.{padded, reached_at, recall_at, Taking, Called, UnderIf, Under}
use Rattle.sweep_row.proofs.Carried.{row_log_fits, row_list_fits, carried}

-- an entry of the list takes 11 bytes
short : (z : UidSize) (l : List ℕ) → length (take (byte_count z) l) ≤ 10
short Single l = rw length-take (omega arith)
short Double l = rw length-take (omega arith)
short Triple l = rw length-take (omega arith)

entry : (u : Uid) → length (entry_bytes (uid_bytes u)) ≡ 11
unfolding entry_bytes uid_bytes
entry u = ap suc (length_fill 10 (take (byte_count u.size) u.bytes) (short u.size u.bytes))

entries : (t : Turn) → length (list_bytes (steps.found_by t)) ≡ 11 * length (steps.found_by t)
unfolding steps.found_by list_bytes
entries t = go t.answer
  where
    go : (a : Answer) → length (list_bytes (steps.found_in a (uid_bytes t.reader.uid))) ≡ 11 * length (steps.found_in a (uid_bytes t.reader.uid))
    go (Sends n) = refl
    go (Finds n) = rw (length-append, entry t.reader.uid)
    go Selects = refl
    go Finishes = refl
    go (Declines e) = refl

-- both have a frame out
same_goes : (p : Progress) (cs : List Card) → steps.goes_on (reached_at p cs) ≡ goes_on p.swept
unfolding steps.goes_on goes_on
same_goes p cs = refl

module _ (b : Bool) (start : Start) (cards₀ : List Card) (log₀ list₀ : List ℕ) (p : Progress) (ws : List Card) (log list : List ℕ) (T : Taking b start cards₀ log₀ list₀ p ws log list) where
  abbrev N : ℕ
  N = length cards₀

  abbrev cs : List Card
  cs = T.cs

  abbrev P : steps.Reached
  P = reached_at p cs

  abbrev c : Card
  c = get_or ws p.at no_card

  abbrev f : List ℕ
  f = frame p.swept.reader

  abbrev a : Air
  a = air_with p c

  at_cs : p.at < length cs
  at_cs = omega (arith, T.at, T.size)

  plain_cards : take N P.cards ≡ cs
  plain_cards = subst (λ m. take N (padded m cs) ≡ cs) (sym T.count) (take_padded N cs T.size)

  goes_plain : steps.goes_on P ≡ true
  goes_plain = same_goes p cs ∙ T.goes

  log_fits : log_size (swept_if b cards₀).exchanges ≤ length log₀
  log_fits = row_log_fits b start cards₀ log₀ list₀ T.begun T.typed T.field

  list_fits : length (list_bytes (swept_if b cards₀).found) ≤ length list₀
  list_fits = row_list_fits b start cards₀ log₀ list₀ T.begun T.typed T.field

  bits_before : p.air.bits ≤ length p.air.heard
  bits_before = let u = T.take_at in omega (arith, u.count, take-laws.front_fits T.heard₀ _ (length p.air.heard) (sym (ap length u.row)))

  bits_after : a.bits ≤ length a.heard
  bits_after = let u = take_next p T.heard₀ cs ws at_cs T.take_at in omega (arith, u.count, take-laws.front_fits T.heard₀ _ (length a.heard) (sym (ap length u.row)))

  module _ (z : p.at ≡ 0) where
    heard : heard_from f (take N P.cards) ≡ heard_in a
    heard = ap (heard_from f) plain_cards ∙ sym (heard_all_law p T.heard₀ cs ws at_cs T.take_at z)

    exchange : steps.next_exchange P N ≡ exchange_with p.swept.reader a
    unfolding steps.exchange_of exchange_with
    exchange = ap (sent_heard f) heard

    -- the reader's state after it
    abbrev after : Recall
    after = hear_if b p.swept.reader (path_of p.path) (steps.next_heard P N)

    hears : after ≡ heard_by b p a
    unfolding heard_by
    hears = ap (λ h. hear_if b p.swept.reader (path_of p.path) h) heard

    turn : after.turn ≡ (heard_by b p a).turn
    turn = ap (λ m. m.turn) hears

    room : Roomy b p a log list
    room =
        let R : steps.Roomy P N after.turn log list = run-laws.under_room (sweeper b) start.tick (swept_if b cards₀) (padded N cards₀) N log₀ list₀ (recall_at p) P refl log list T.sweep_at T.begun.few goes_plain log_fits list_fits in
        record {
          bits = bits_after;
          log_has_room = subst (λ x. p.swept.logged + exchange_size x ≤ length log) exchange R.log_has_room;
          list_has_room = subst (λ t. 11 * p.swept.found + 11 * length (steps.found_by t) ≤ length list) turn R.list_has_room;
          more = R.more;
        }

    abbrev log₁ : List ℕ
    log₁ = overlay log p.swept.logged (exchange_bytes (row_tick p) (exchange_with p.swept.reader a))

    abbrev list₁ : List ℕ
    list₁ = overlay list (11 * p.swept.found) (list_bytes (steps.found_by (heard_by b p a).turn))

    abbrev q : Progress
    q = again p (finished b p a)

    abbrev ws₁ : List Card
    ws₁ = set ws p.at (takes c f)

    row : ws₁ ≡ all_take f cs
    row = row_all p T.heard₀ cs ws at_cs T.take_at z

    size : length ws₁ ≡ N
    size = ap length row ∙ length_after f cs ∙ T.size

    plain_after : cards_after P.cards N f ≡ padded p.cards ws₁
    plain_after = subst (λ m. cards_after (padded m cs) N f ≡ padded m ws₁) (sym T.count) (padded_after N cs T.size f ∙ ap (padded N) (sym row))

    abbrev made : Turn → Exchange → List Card → steps.Reached
    made t x k =
        record {
          turn = t;
          cards = k;
          logged = p.swept.logged + exchange_size x;
          frames = p.swept.frames + 1;
          found = p.swept.found + length (steps.found_by t);
        }

    -- the reader's state, and how far the sweep is
    state : after ≡ recall_at q
    unfolding finished
    state = hears ∙ ap (recall (heard_by b p a).turn) (sym (path_at (stored (heard_by b p a).path) (heard_by b p a).path refl))

    stepped : steps.onto P N (recall_at q).turn ≡ reached_at q ws₁
    unfolding steps.onto finished
    stepped = ap₂ (λ x k. made (heard_by b p a).turn x k) exchange plain_after

    abbrev Sweeps : Recall → steps.Reached → List ℕ → List ℕ → Type 0
    Sweeps m s x y = run-laws.Under (sweeper b) start.tick (swept_if b cards₀) (padded N cards₀) N log₀ list₀ m s x y

    under : Sweeps (recall_at q) (reached_at q ws₁) log₁ list₁
    under =
        subst (λ s. Sweeps (recall_at q) s log₁ list₁) stepped
        (subst (λ m. Sweeps m (steps.onto P N m.turn) log₁ list₁) state
        (run-laws.under_turn (sweeper b) start.tick (swept_if b cards₀) (padded N cards₀) N log₀ list₀ (recall_at p) P refl log list T.sweep_at T.begun.few goes_plain log_fits list_fits log₁ list₁
        (record {
          log_row = ap₂ (λ t x. overlay log p.swept.logged (exchange_bytes (t + 2 * p.swept.frames) x)) T.tick (sym exchange);
          list_row = ap (λ t. overlay list (11 * p.swept.found) (list_bytes (steps.found_by t))) (sym turn);
          entries = entries after.turn;
        })))

    -- the next pass begins
    goes_on_law : goes_on (finished b p a).swept ≡ true → Taking b start cards₀ log₀ list₀ q ws₁ log₁ list₁
    goes_on_law g =
        let e : length ws₁ ≡ suc (p.cards - 1) = omega (arith, size, T.count, T.at) in
        record {
          begun = T.begun;
          field = T.field;
          typed = T.typed;
          cs = ws₁;
          heard₀ = silence.heard;
          size = size;
          count = T.count;
          at = omega (arith, T.count, T.at);
          goes = g;
          tick = T.tick;
          sweep_at = under;
          take_at = subst (take-laws.Under silence.heard ws₁ (length ws₁) (frame q.swept.reader) silence.heard ws₁ 0) e (take_start (frame q.swept.reader) silence.heard ws₁);
        }

    -- it is over
    module _ (g : goes_on (finished b p a).swept ≡ false) where
      ends : reached_at q ws₁ ≡ steps.ends (padded N cards₀) N (swept_if b cards₀)
      ends = run-laws.under_ends (sweeper b) start.tick (swept_if b cards₀) (padded N cards₀) N log₀ list₀ (recall_at q) (reached_at q ws₁) refl log₁ list₁ under T.begun.few (same_goes q ws₁ ∙ g)

      abbrev rest : List Card
      rest = replicate (most_cards - N) no_card

      both : ws₁ ++ rest ≡ (swept_if b cards₀).cards ++ rest
      both = subst (λ m. padded m ws₁ ≡ (swept_if b cards₀).cards ++ rest) T.count (ap (λ s. s.cards) ends ∙ ap (λ k. (swept_if b cards₀).cards ++ k) (drop_padded N cards₀ refl))

      cards_last : ws₁ ≡ (swept_if b cards₀).cards
      cards_last =
          let e : length (swept_if b cards₀).cards ≡ N = omega (arith, size, ap length both, length-append ws₁ rest, length-append (swept_if b cards₀).cards rest) in
          sym (take_at ws₁ rest N size) ∙ ap (take N) both ∙ take_at (swept_if b cards₀).cards rest N e

      over : Called b start cards₀ N log₀ list₀ (swept_row q.swept ws₁) log₁ list₁
      over =
          carried b start cards₀ log₀ list₀ T.begun T.typed T.field q.swept ws₁ log₁ list₁
          (ap (λ s. record { reader = s.turn.reader; answer = s.turn.answer; frames = s.frames; logged = s.logged; found = s.found }) ends)
          cards_last
          (run-laws.under_log (sweeper b) start.tick (swept_if b cards₀) (padded N cards₀) N log₀ list₀ (recall_at q) (reached_at q ws₁) refl log₁ list₁ under T.begun.few (same_goes q ws₁ ∙ g))
          (run-laws.under_list (sweeper b) start.tick (swept_if b cards₀) (padded N cards₀) N log₀ list₀ (recall_at q) (reached_at q ws₁) refl log₁ list₁ under T.begun.few (same_goes q ws₁ ∙ g))

    pub taken_last : Under b start cards₀ log₀ list₀ q ws₁ log₁ list₁
    taken_last = go (goes_on (finished b p a).swept) refl
      where
        go : (g : Bool) → goes_on (finished b p a).swept ≡ g → UnderIf b g false start cards₀ log₀ list₀ q ws₁ log₁ list₁
        go true e = goes_on_law e
        go false e = over e

  -- the next card
  pub taken_next : (p.at ≡ 0 → ⊥) → Taking b start cards₀ log₀ list₀ (onward p a) (set ws p.at (takes c f)) log list
  taken_next z =
      let e : p.at ≡ suc (p.at - 1) = omega (arith, z) in
      record {
        begun = T.begun;
        field = T.field;
        typed = T.typed;
        cs = cs;
        heard₀ = T.heard₀;
        size = T.size;
        count = T.count;
        at = omega (arith, T.at);
        goes = T.goes;
        tick = T.tick;
        sweep_at = T.sweep_at;
        take_at = subst (take-laws.Under T.heard₀ cs (length cs) f a.heard (set ws p.at (takes c f)) a.bits) e (take_next p T.heard₀ cs ws at_cs T.take_at);
      }

  pub taking_ready : Ready b p c log list
  taking_ready =
      record {
        at = omega (arith, T.at, T.count);
        few = omega (arith, T.begun.few, T.count);
        bits = bits_before;
        room = λ l z. room z;
      }
