-- Laws of the loop of a sweep, whatever its reader does with a row: how what is left of the run is taken, exchange by exchange, and where it is
-- written. The plain sweep and the one that remembers (T-14) cite them. Assumes nothing.
use Rattle.std.specs.Prelude.{◌≡◌, refl, true, false, take, replicate}
use Rattle.std.proofs.Math.Path.{sym, ap, ap₂}
use Rattle.std.proofs.Common.{◌∙◌, length-drop, take-append-drop, take_at, drop_at, length-take-le}
use Prim.Native.Nat.{ℕ, ◌+◌, ◌-◌, ◌*◌, ◌≤◌}
use Rattle.std.proofs.lemmas.Bool.{false≢true}
use mathlib.Core.List.{List, [], ◌∷◌, ◌++◌, append_assoc}
use Rattle.std.proofs.Math.ListN.{length, drop, length-append}
use Rattle.std.proofs.lemmas.List.{length-map, length-replicate}
use native.Mathlib.Omega.{arith}
use Rattle.rows.specs.Rows.{overlay, fill}
use Rattle.rows.proofs.RowLaws.{overlay_nil, overlay_next, length_overlay}
use Rattle.uid.specs.Uid.{uid_bytes}
use Rattle.reader.specs.Reader.{frame}
use Rattle.field.specs.Calls.{cards_after}
use Rattle.field.specs.Field.{all_take}
use Rattle.air_log.specs.Log.{exchange_bytes, log_bytes, exchange_size, log_size, list_bytes, entry_bytes}
use Rattle.air_log.proofs.RecordLaws.{exchange_size_law, log_size_law, log_size_next}
use Rattle.limits.specs.Limits.{most_cards}
use Rattle.sweep_rules.specs.Run.{Out, before, finding, ended, follow}
use Rattle.card.specs.declared.Card.{Card}
use Rattle.reader.specs.declared.Turn.{Turn}
use Rattle.reader.specs.declared.Answer.{Answer}
use Rattle.reader.specs.declared.Answer.TheVariants.{Sends, Finds, Selects, Finishes, Declines}
use Rattle.sweep_steps.specs.Steps.{goes, found_in, found_by, Reached, at_first, onto, ends, next_exchange, next_tick}

-- ---- after an answer

-- o if a frame is out, else e
abbrev pub onward : Answer → Out → Out → Out
onward (Sends n) o e = o
onward (Finds n) o e = o
onward Selects o e = e
onward Finishes o e = e
onward (Declines x) o e = e

pub onward_goes : (a : Answer) (o e : Out) → goes a ≡ true → onward a o e ≡ o
onward_goes (Sends n) o e g = refl
onward_goes (Finds n) o e g = refl
onward_goes Selects o e g = absurd (false≢true g)
onward_goes Finishes o e g = absurd (false≢true g)
onward_goes (Declines x) o e g = absurd (false≢true g)

pub onward_stops : (a : Answer) (o e : Out) → goes a ≡ false → onward a o e ≡ e
onward_stops (Sends n) o e g = absurd (false≢true (sym g))
onward_stops (Finds n) o e g = absurd (false≢true (sym g))
onward_stops Selects o e g = refl
onward_stops Finishes o e g = refl
onward_stops (Declines x) o e g = refl

pub onward_same : (a : Answer) (e : Out) → onward a e e ≡ e
onward_same (Sends n) e = refl
onward_same (Finds n) e = refl
onward_same Selects e = refl
onward_same Finishes e = refl
onward_same (Declines x) e = refl

-- what comes after a turn, with the UID that it found
unfoldable pub with_found : List (List ℕ) → Out → Out
with_found u o = record { exchanges = o.exchanges; found = u ++ o.found; cards = o.cards; last = o.last }

pub follow_onward : (a : Answer) (t : Turn) (cs : List Card) (o : Out) → follow a t cs o ≡ with_found (found_in a (uid_bytes t.reader.uid)) (onward a o (ended cs t))
unfolding finding with_found
follow_onward (Sends n) t cs o = refl
follow_onward (Finds n) t cs o = refl
follow_onward Selects t cs o = refl
follow_onward Finishes t cs o = refl
follow_onward (Declines e) t cs o = refl

-- ---- the list

list_append : (a b : List (List ℕ)) → list_bytes (a ++ b) ≡ list_bytes a ++ list_bytes b
unfolding list_bytes
list_append [] b = refl
list_append (u ∷ a) b = ap (λ r. entry_bytes u ++ r) (list_append a b) ∙ sym (append_assoc (entry_bytes u) (list_bytes a) (list_bytes b))

-- an entry takes 11 bytes at least
entries_least : (a : List (List ℕ)) → 11 * length a ≤ length (list_bytes a)
unfolding list_bytes entry_bytes fill
entries_least [] = omega arith
entries_least (u ∷ a) =
    omega (
      arith,
      entries_least a,
      length-append (entry_bytes u) (list_bytes a),
      length-append u (replicate (10 - length u) 0),
      length-replicate {A = ℕ} (10 - length u) 0,
    )

-- ---- the cards, of which the first n have taken a frame

length_taken : (cards : List Card) (n : ℕ) (f : List ℕ) → n ≤ length cards → length (all_take f (take n cards)) ≡ n
unfolding all_take
length_taken cards n f h = rw length-map (length-take-le n cards h)

pub take_after : (cards : List Card) (n : ℕ) (f : List ℕ) → n ≤ length cards → take n (cards_after cards n f) ≡ all_take f (take n cards)
unfolding cards_after
take_after cards n f h = take_at (all_take f (take n cards)) (drop n cards) n (length_taken cards n f h)

pub drop_after : (cards : List Card) (n : ℕ) (f : List ℕ) → n ≤ length cards → drop n (cards_after cards n f) ≡ drop n cards
unfolding cards_after
drop_after cards n f h = drop_at (all_take f (take n cards)) (drop n cards) n (length_taken cards n f h)

pub length_after : (cards : List Card) (n : ℕ) (f : List ℕ) → n ≤ length cards → length (cards_after cards n f) ≡ length cards
unfolding cards_after
length_after cards n f h =
    rw (length-append, length_taken cards n f h, length-drop) (omega arith)

-- ---- how far a sweep is

-- the whole run is W, over the first n of cards₀ with log₀ and list₀, its first tick t; so far it is at p, log and list, and L is left
pub record Leaves (t : ℕ) (W : Out) (cards₀ : List Card) (n : ℕ) (log₀ list₀ : List ℕ) (L : Out) (p : Reached) (log list : List ℕ) : Type 0 where
  pub full : length p.cards ≡ most_cards
  pub log_size_law : length log ≡ length log₀
  pub list_size : length list ≡ length list₀
  pub log_row : overlay log p.logged (log_bytes (next_tick t p) L.exchanges) ≡ overlay log₀ 0 (log_bytes t W.exchanges)
  pub log_at : p.logged + log_size L.exchanges ≡ log_size W.exchanges
  pub list_row : overlay list (11 * p.found) (list_bytes L.found) ≡ overlay list₀ 0 (list_bytes W.found)
  pub list_at : 11 * p.found + length (list_bytes L.found) ≡ length (list_bytes W.found)
  pub found : p.found + length L.found ≡ length W.found
  pub frames : p.frames + length L.exchanges ≡ length W.exchanges
  pub cards : L.cards ≡ W.cards
  pub last : L.last ≡ W.last
  pub others : drop n p.cards ≡ drop n cards₀

-- before the first exchange all is left
pub leaves_all : (t : ℕ) (cards : List Card) (n : ℕ) (log list : List ℕ) (v : Turn) (W : Out) → length cards ≡ most_cards
    → Leaves t W cards n log list W (at_first v cards) log list
leaves_all t cards n log list v W h =
    let z : t + 2 * 0 ≡ t = omega arith in
    record {
      full = h;
      log_size_law = refl;
      list_size = refl;
      log_row = ap (λ i. overlay log 0 (log_bytes i W.exchanges)) z;
      log_at = omega arith;
      list_row = refl;
      list_at = omega arith;
      found = omega arith;
      frames = omega arith;
      cards = refl;
      last = refl;
      others = refl;
    }

made : (a : Turn) (b : List Card) (c d e : ℕ) (q : Reached) → a ≡ q.turn → b ≡ q.cards → c ≡ q.logged → d ≡ q.frames → e ≡ q.found
    → ◌≡◌ {A = Reached} (record { turn = a; cards = b; logged = c; frames = d; found = e }) q
made a b c d e q ea eb ec ed ee = rw (ea, eb, ec, ed, ee)

module _ (t : ℕ) (W : Out) (cards₀ : List Card) (n : ℕ) (log₀ list₀ : List ℕ) (L : Out) (p : Reached) (log list : List ℕ) (u : Leaves t W cards₀ n log₀ list₀ L p log list) (few : n ≤ most_cards) where
  -- the next exchange
  X : List ℕ
  X = exchange_bytes (next_tick t p) (next_exchange p n)

  -- the reader's turn after it is v, and R is left then
  module _ (v : Turn) (R : Out) (step : L ≡ before (next_exchange p n) (with_found (found_by v) R)) where
    U : List (List ℕ)
    U = found_by v

    log_next : log_bytes (next_tick t p) L.exchanges ≡ X ++ log_bytes (next_tick t (onto p n v)) R.exchanges
    unfolding X before with_found log_bytes onto
    log_next =
        let e : next_tick t p + 2 ≡ next_tick t (onto p n v) = omega arith in
        ap (λ o. log_bytes (next_tick t p) o.exchanges) step ∙ ap (λ i. X ++ log_bytes i R.exchanges) e

    size_next : log_size L.exchanges ≡ exchange_size (next_exchange p n) + log_size R.exchanges
    unfolding before with_found
    size_next = ap (λ o. log_size o.exchanges) step ∙ log_size_next (next_exchange p n) R.exchanges

    length_next : length X ≡ exchange_size (next_exchange p n)
    unfolding X
    length_next = exchange_size_law (next_tick t p) (next_exchange p n)

    list_next : list_bytes L.found ≡ list_bytes U ++ list_bytes R.found
    unfolding U before with_found
    list_next = ap (λ o. list_bytes o.found) step ∙ list_append U R.found

    -- log and list have room for it
    module _ (hlog : log_size W.exchanges ≤ length log₀) (hlist : length (list_bytes W.found) ≤ length list₀) where
      pub log_has_room : p.logged + exchange_size (next_exchange p n) ≤ length log
      log_has_room = omega (arith, u.log_size_law, u.log_at, size_next)

      pub list_has_room : 11 * p.found + 11 * length (found_by v) ≤ length list
      unfolding U
      list_has_room = omega (arith, u.list_size, u.list_at, ap length list_next, length-append (list_bytes U) (list_bytes R.found), entries_least U)

      -- .. and are afterwards log' and list'
      pub leaves_next : (log' list' : List ℕ) → log' ≡ overlay log p.logged (exchange_bytes (next_tick t p) (next_exchange p n))
          → list' ≡ overlay list (11 * p.found) (list_bytes (found_by v)) → length (list_bytes (found_by v)) ≡ 11 * length (found_by v)
          → Leaves t W cards₀ n log₀ list₀ R (onto p n v) log' list'
      unfolding X U onto before with_found
      leaves_next log' list' a b entries =
          let l : List ℕ = log_bytes (next_tick t (onto p n v)) R.exchanges in
          let few-log : p.logged + length X + length l ≤ length log =
          omega (arith, u.log_size_law, u.log_at, size_next, length_next, log_size_law (next_tick t (onto p n v)) R.exchanges) in
          let at-log : p.logged + exchange_size (next_exchange p n) ≡ p.logged + length X = omega (arith, length_next) in
          let few-list : 11 * p.found + length (list_bytes U) + length (list_bytes R.found) ≤ length list =
          omega (arith, u.list_size, u.list_at, ap length list_next, length-append (list_bytes U) (list_bytes R.found)) in
          let at : 11 * (p.found + length U) ≡ 11 * p.found + length (list_bytes U) = omega (arith, entries) in
          record {
            full = length_after p.cards n (frame p.turn.reader) (omega (arith, u.full)) ∙ u.full;
            log_size_law = ap length a ∙ length_overlay log p.logged X (omega arith) ∙ u.log_size_law;
            list_size = ap length b ∙ length_overlay list (11 * p.found) (list_bytes U) (omega arith) ∙ u.list_size;
            log_row = rw (a, at-log, overlay_next log p.logged X l few-log, ← log_next) u.log_row;
            log_at = omega (arith, u.log_at, size_next);
            list_row = rw (b, at, overlay_next list (11 * p.found) (list_bytes U) (list_bytes R.found) few-list, ← list_next) u.list_row;
            list_at = omega (arith, u.list_at, at, ap length list_next, length-append (list_bytes U) (list_bytes R.found));
            found = omega (arith, u.found, ap (λ o. length o.found) step, length-append U R.found);
            frames = omega (arith, u.frames, ap (λ o. length o.exchanges) step);
            cards = sym (ap (λ o. o.cards) step) ∙ u.cards;
            last = sym (ap (λ o. o.last) step) ∙ u.last;
            others = drop_after p.cards n (frame p.turn.reader) (omega (arith, u.full)) ∙ u.others;
          }

  -- nothing is left
  module _ (none : L ≡ ended (take n p.cards) p.turn) where
    pub leaves_log : log ≡ overlay log₀ 0 (log_bytes t W.exchanges)
    unfolding ended log_bytes
    leaves_log = sym (overlay_nil log p.logged) ∙ ap (λ o. overlay log p.logged (log_bytes (next_tick t p) o.exchanges)) (sym none) ∙ u.log_row

    pub leaves_list : list ≡ overlay list₀ 0 (list_bytes W.found)
    unfolding ended list_bytes
    leaves_list = sym (overlay_nil list (11 * p.found)) ∙ ap (λ o. overlay list (11 * p.found) (list_bytes o.found)) (sym none) ∙ u.list_row

    pub leaves_ends : p ≡ ends cards₀ n W
    unfolding ended log_bytes log_size
    leaves_ends =
        let t : p.turn ≡ W.last = ap (λ o. o.last) (sym none) ∙ u.last in
        let c : p.cards ≡ W.cards ++ drop n cards₀ =
        sym (take-append-drop n p.cards) ∙ ap₂ ◌++◌ (ap (λ o. o.cards) (sym none) ∙ u.cards) u.others in
        let l : p.logged ≡ log_size W.exchanges = omega (arith, u.log_at, ap (λ o. log_size o.exchanges) none) in
        let k : p.frames ≡ length W.exchanges = omega (arith, u.frames, ap (λ o. length o.exchanges) none) in
        let d : p.found ≡ length W.found = omega (arith, u.found, ap (λ o. length o.found) none) in
        made p.turn p.cards p.logged p.frames p.found (ends cards₀ n W) t c l k d
