-- Laws of a sweep's loop, by any reader R: what is left of its run, exchange by exchange. The reader is in the state s, and the sweep has reached p, so
-- the turn that s shows is p's. Assumes nothing.
use Rattle.std.specs.Prelude.{◌≡◌, Bool, ◌&&◌, length, take}
use Rattle.std.proofs.Math.Path.{refl, ap}
use Rattle.std.proofs.Common.{◌∙◌, arith}
use Prim.Native.Nat.{ℕ, suc, ◌+◌, ◌-◌, ◌≤◌, ◌<◌}
use Rattle.std.proofs.Math.Bool.{true, false}
use mathlib.Core.List.{List}
use Rattle.std.proofs.Math.Dec.{ltb}
use borrow.Author.Tests.{ltb-true, ltb-false}
use Rattle.rows.specs.Rows.{overlay}
use Rattle.rows.specs.ListLaws.{both}
use Rattle.reader.specs.Reader.{frame}
use Rattle.field.specs.Field.{all_take, heard_from}
use Rattle.air_log.specs.Log.{sent_heard, log_bytes, log_size, list_bytes}
use Rattle.limits.specs.Limits.{most_cards, most_frames}
use Rattle.sweep_rules.specs.Run.{Out, before, ended, Runner, run_of}
use Rattle.card.specs.declared.Card.{Card}
use Rattle.reader.specs.declared.Turn.{Turn}
use Rattle.sweep_steps.specs.Steps.{goes, found_by, exchange_of, Reached, at_first, onto, goes_on, ends, next_heard, next_exchange, Roomy, Written}
use Rattle.sweep_steps.specs.LeftLaws.{onward, onward_goes, onward_stops, onward_same, with_found, follow_onward, take_after, Leaves, leaves_all, log_has_room, list_has_room, leaves_next, leaves_log, leaves_list, leaves_ends}

pub goes_on_law : (p : Reached) → goes_on p ≡ true → (p.frames < most_frames) × (goes p.turn.answer ≡ true)
unfolding goes_on
goes_on_law p g =
    let b : (ltb p.frames most_frames ≡ true) × (goes p.turn.answer ≡ true) = both (ltb p.frames most_frames) (goes p.turn.answer) g in
    (ltb-true p.frames most_frames b.0, b.1)

module _ {S : Type 0} (R : Runner S) where
  -- ---- what is left of a run

  unfoldable pub rest : ℕ → S → List Card → Out
  rest k s cs = onward (R.turn s).answer (run_of R k s cs) (ended cs (R.turn s))

  -- one exchange, then the rest
  unfoldable pub after : ℕ → S → List Card → Out
  after k s cs =
      let s' : S = R.hears s (heard_from (frame (R.turn s).reader) cs) in
      before (exchange_of (R.turn s).reader cs) (with_found (found_by (R.turn s')) (rest k s' (all_take (frame (R.turn s).reader) cs)))

  run_after : (k : ℕ) (s : S) (cs : List Card) → run_of R (suc k) s cs ≡ after k s cs
  unfolding run_of after rest found_by exchange_of
  run_after k s cs =
      let f : List ℕ = frame (R.turn s).reader in
      let s' : S = R.hears s (heard_from f cs) in
      ap (before (sent_heard f (heard_from f cs))) (follow_onward (R.turn s').answer (R.turn s') (all_take f cs) (run_of R k s' (all_take f cs)))

  pub rest_step : (k : ℕ) (s : S) (cs : List Card) → goes (R.turn s).answer ≡ true → rest (suc k) s cs ≡ after k s cs
  unfolding rest
  rest_step k s cs g = onward_goes (R.turn s).answer (run_of R (suc k) s cs) (ended cs (R.turn s)) g ∙ run_after k s cs

  pub rest_stops : (k : ℕ) (s : S) (cs : List Card) → goes (R.turn s).answer ≡ false → rest k s cs ≡ ended cs (R.turn s)
  unfolding rest
  rest_stops k s cs g = onward_stops (R.turn s).answer (run_of R k s cs) (ended cs (R.turn s)) g

  pub rest_spent : (s : S) (cs : List Card) → rest 0 s cs ≡ ended cs (R.turn s)
  unfolding rest run_of
  rest_spent s cs = onward_same (R.turn s).answer (ended cs (R.turn s))

  -- ---- how far a sweep is

  -- what is left of it
  abbrev left : S → Reached → ℕ → Out
  left s p n = rest (most_frames - p.frames) s (take n p.cards)

  -- the whole run is W, over the first n of cards₀ with log₀ and list₀, its first tick t; so far it is at p, log and list
  abbrev pub Under : ℕ → Out → List Card → ℕ → List ℕ → List ℕ → S → Reached → List ℕ → List ℕ → Type 0
  Under t W cards₀ n log₀ list₀ s p log list = Leaves t W cards₀ n log₀ list₀ (left s p n) p log list

  -- before the first exchange, a frame being out
  pub under_none : (t : ℕ) (s : S) (cards : List Card) (n : ℕ) (log list : List ℕ) → goes (R.turn s).answer ≡ true → length cards ≡ most_cards
      → Under t (run_of R most_frames s (take n cards)) cards n log list s (at_first (R.turn s) cards) log list
  unfolding rest
  under_none t s cards n log list g h =
      let W : Out = run_of R most_frames s (take n cards) in
      rw (onward_goes (R.turn s).answer W (ended (take n cards) (R.turn s)) g) (leaves_all t cards n log list (R.turn s) W h)

  module _ (t : ℕ) (W : Out) (cards₀ : List Card) (n : ℕ) (log₀ list₀ : List ℕ) (s : S) (p : Reached) (e : R.turn s ≡ p.turn) (log list : List ℕ) (u : Under t W cards₀ n log₀ list₀ s p log list) (few : n ≤ most_cards) where
    -- the reader's state after the next exchange
    abbrev pub next_state : S
    next_state = R.hears s (next_heard p n)

    module _ (g : goes_on p ≡ true) where
      -- what is left is the next exchange, and what is left after it
      step : left s p n ≡ before (next_exchange p n) (with_found (found_by (R.turn next_state)) (left next_state (onto p n (R.turn next_state)) n))
      unfolding onto after
      step =
          let b : (p.frames < most_frames) × (goes p.turn.answer ≡ true) = goes_on_law p g in
          let k : most_frames - p.frames ≡ suc (most_frames - (p.frames + 1)) = omega (arith, b.0) in
          rw (k, take_after p.cards n (frame p.turn.reader) (omega (arith, u.full)), ← e)
          (rest_step (most_frames - (p.frames + 1)) s (take n p.cards) (ap (λ v. goes v.answer) e ∙ b.1))

      pub under_room : log_size W.exchanges ≤ length log₀ → length (list_bytes W.found) ≤ length list₀ → Roomy p n (R.turn next_state) log list
      under_room hlog hlist =
          let v : Turn = R.turn next_state in
          let L : Out = left next_state (onto p n v) n in
          record {
            few = few;
            log_has_room = log_has_room t W cards₀ n log₀ list₀ (left s p n) p log list u few v L step hlog hlist;
            list_has_room = list_has_room t W cards₀ n log₀ list₀ (left s p n) p log list u few v L step hlog hlist;
            more = (goes_on_law p g).0;
          }

      pub under_turn : log_size W.exchanges ≤ length log₀ → length (list_bytes W.found) ≤ length list₀
          → (log' list' : List ℕ) → Written t p n (R.turn next_state) log list log' list' → Under t W cards₀ n log₀ list₀ next_state (onto p n (R.turn next_state)) log' list'
      under_turn hlog hlist log' list' w =
          leaves_next t W cards₀ n log₀ list₀ (left s p n) p log list u few (R.turn next_state) (left next_state (onto p n (R.turn next_state)) n) step hlog hlist log' list' w.log_row w.list_row w.entries

    -- the loop is over
    module _ (g : goes_on p ≡ false) where
      -- what is left is nothing
      none : left s p n ≡ ended (take n p.cards) p.turn
      unfolding goes_on
      none = go (ltb p.frames most_frames) refl g ∙ ap (ended (take n p.cards)) e
        where
          go : (b : Bool) → ltb p.frames most_frames ≡ b → (b && goes p.turn.answer) ≡ false → left s p n ≡ ended (take n p.cards) (R.turn s)
          go true h g = rest_stops (most_frames - p.frames) s (take n p.cards) (ap (λ v. goes v.answer) e ∙ g)
          go false h g =
              let z : most_frames - p.frames ≡ 0 = omega (arith, ltb-false p.frames most_frames h) in
              rw z (rest_spent s (take n p.cards))

      pub under_log : log ≡ overlay log₀ 0 (log_bytes t W.exchanges)
      under_log = leaves_log t W cards₀ n log₀ list₀ (left s p n) p log list u few none

      pub under_list : list ≡ overlay list₀ 0 (list_bytes W.found)
      under_list = leaves_list t W cards₀ n log₀ list₀ (left s p n) p log list u few none

      pub under_ends : p ≡ ends cards₀ n W
      under_ends = leaves_ends t W cards₀ n log₀ list₀ (left s p n) p log list u few none
