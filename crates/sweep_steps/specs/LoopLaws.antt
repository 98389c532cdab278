-- Laws of the loop as it is coded: it is one of any reader's (RunLaws.antt), the plain one's where it does not remember. Assumes nothing.
use Rattle.std.specs.Prelude.{◌≡◌, ℕ, ◌-◌, ◌≤◌, ◌<◌, Bool, true, false, List, length, take}
use Rattle.std.proofs.Math.Path.{refl, ap}
use Rattle.std.proofs.Common.{arith}
use Rattle.reader.specs.Reader.{sends}
use Rattle.air_log.specs.Log.{log_size, list_bytes}
use Rattle.limits.specs.Limits.{most_cards, most_frames}
use Rattle.memory.specs.Memory.{Recall, recall, hear_if}
use Rattle.memory.specs.Stored.{path_of, stored, memory_of}
use Rattle.memory.proofs.StoredLaws.{path_at}
use Rattle.sweep_rules.specs.Run.{Out, sweep}
use Rattle.sweep_rules.specs.RunLaws.{run_as_plain}
use Rattle.card.specs.declared.Card.{Card}
use Rattle.sweep_steps.specs.Loop.{sweeper, first_recall, swept_if, reached_at, recall_at, exchanged, started, stepped, next_turn}
use Rattle.sweep_steps.specs.RunLaws as run-laws
use Rattle.sweep_steps.specs.RunLaws.{goes_on_law}
use Rattle.sweep_steps.specs.Steps.{next_heard, onto, goes_on, Roomy, Written}
use Rattle.sweep_steps.specs.declared.within.Progress.{Progress}

-- where it does not remember it is the plain sweep
pub swept_plain : (cs : List Card) → swept_if false cs ≡ sweep cs
unfolding swept_if sweep
swept_plain cs = run_as_plain (sweeper false) (λ s h. refl) most_frames first_recall cs

-- the path that the code keeps is the rules'
recall_kept : (m : Recall) → recall (memory_of m).turn (path_of (memory_of m).path) ≡ m
unfolding memory_of
recall_kept m = ap (recall m.turn) (path_at (stored m.path) m.path refl)

module _ (b : Bool) where
  abbrev pub Under : ℕ → Out → List Card → ℕ → List ℕ → List ℕ → Progress → List ℕ → List ℕ → Type 0
  Under t W cards₀ n log₀ list₀ p log list = run-laws.Under (sweeper b) t W cards₀ n log₀ list₀ (recall_at p) (reached_at p) log list

  -- before the first exchange
  pub under_none : (t : ℕ) (cards : List Card) (n : ℕ) (log list : List ℕ) → length cards ≡ most_cards
      → Under t (swept_if b (take n cards)) cards n log list (started cards) log list
  unfolding started swept_if sends memory_of
  under_none t cards n log list h = rw (recall_kept first_recall) (run-laws.under_none (sweeper b) t first_recall cards n log list refl h)

  -- log and list have room for the next
  pub under_room : (t : ℕ) (W : Out) (cards₀ : List Card) (n : ℕ) (log₀ list₀ : List ℕ) (p : Progress) (log list : List ℕ) → Under t W cards₀ n log₀ list₀ p log list
      → n ≤ most_cards → goes_on (reached_at p) ≡ true → log_size W.exchanges ≤ length log₀ → length (list_bytes W.found) ≤ length list₀
      → Roomy (reached_at p) n (next_turn b p n) log list
  unfolding exchanged memory_of
  under_room t W cards₀ n log₀ list₀ p log list u few g hlog hlist =
      run-laws.under_room (sweeper b) t W cards₀ n log₀ list₀ (recall_at p) (reached_at p) refl log list u few g hlog hlist

  -- after one more
  pub under_turn : (t : ℕ) (W : Out) (cards₀ : List Card) (n : ℕ) (log₀ list₀ : List ℕ) (p : Progress) (log list : List ℕ) → Under t W cards₀ n log₀ list₀ p log list
      → n ≤ most_cards → goes_on (reached_at p) ≡ true → log_size W.exchanges ≤ length log₀ → length (list_bytes W.found) ≤ length list₀
      → (log' list' : List ℕ) → Written t (reached_at p) n (next_turn b p n) log list log' list' → Under t W cards₀ n log₀ list₀ (stepped b p n) log' list'
  unfolding stepped exchanged memory_of onto
  under_turn t W cards₀ n log₀ list₀ p log list u few g hlog hlist log' list' w =
      let m : Recall = hear_if b p.memory.turn.reader (path_of p.memory.path) (next_heard (reached_at p) n) in
      rw (path_at (stored m.path) m.path refl)
      (run-laws.under_turn (sweeper b) t W cards₀ n log₀ list₀ (recall_at p) (reached_at p) refl log list u few g hlog hlist log' list' w)

  -- fewer exchanges are left after each
  pub fewer_left : (p p' : Progress) (n : ℕ) → goes_on (reached_at p) ≡ true → p' ≡ stepped b p n → most_frames - p'.frames < most_frames - p.frames
  unfolding stepped
  fewer_left p p' n g e = omega (arith, (goes_on_law (reached_at p) g).0, ap (λ q. q.frames) e)
