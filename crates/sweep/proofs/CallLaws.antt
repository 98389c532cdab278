-- Laws of the call of a sweep: which of its tests applies. Where it declines, the field or what was lent is not within demand 3's terms.
-- Assumes nothing.
use Rattle.std.specs.Prelude.{◌≡◌, refl, ℕ, ◌≤◌, ◌<◌, Bool, true, false, cond, ◌||◌, List, length, take}
use Rattle.std.proofs.Common.{sym, ◌∙◌, arith}
use Rattle.std.proofs.Math.Path.{ap}
use Rattle.std.proofs.Math.Bool.{not, false≢true}
use Rattle.std.proofs.Math.Dec.{ltb}
use borrow.Author.Tests.{lt-ltb, le-ltb}
use Rattle.rows.specs.Rows.{All, overlay}
use Rattle.refusal.specs.Refusal.{declining}
use Rattle.reader.specs.Calls.{turn_says}
use Rattle.reader.specs.Reader.{is_new}
use Rattle.air_log.specs.Log.{log_bytes, list_bytes}
use Rattle.air_log.proofs.RecordLaws.{log_size_law}
use Rattle.limits.specs.Limits.{most_cards, log_room, list_room}
use Rattle.sweep_rules.specs.Demand.{Typed, Demand3}
use Rattle.sweep_rules.specs.Run.{Out, sweep}
use Rattle.sweep_rules.specs.Terms.{within}
use Rattle.card.specs.declared.Card.{Card}
use Rattle.refusal.specs.declared.Refusal.TheVariants.{Room, Argument, NotDue}
use Rattle.sweep.specs.Sweep.{call, refused, done, call_of, sweep_of}
use Rattle.sweep.specs.Promise.{Terms, swept_says, says_of, Sweeps}
use Rattle.sweep_steps.specs.Steps.{Reached, ends}
use Rattle.sweep.specs.declared.Start.{Start}
use Rattle.sweep.specs.declared.Swept.{Swept}

-- what the contract says of a call of the plain sweep that gave s, log₁ and list₁
abbrev pub Promised : Start → List Card → ℕ → List ℕ → List ℕ → Swept → List ℕ → List ℕ → Type 0
Promised s₀ cards n log list s log₁ list₁ =
    (call s log₁ list₁ ≡ sweep_of s₀ cards n log list) × Sweeps s₀ cards n log list s log₁ list₁

-- what the loop leaves is what the call gives
abbrev pub swept_at : Reached → List Card → Swept
swept_at p cards = record { reader = p.turn.reader; answer = p.turn.answer; cards = cards; frames = p.frames; logged = p.logged; found = p.found }

pub ends_call : (t : ℕ) (cards : List Card) (n : ℕ) (log list : List ℕ) (o : Out) (p : Reached) (log₁ list₁ : List ℕ) → p ≡ ends cards n o
    → log₁ ≡ overlay log 0 (log_bytes t o.exchanges) → list₁ ≡ overlay list 0 (list_bytes o.found) → call (swept_at p p.cards) log₁ list₁ ≡ done t cards n log list o
unfolding done
ends_call t cards n log list o p log₁ list₁ e a b = rw (e, a, b, log_size_law t o.exchanges)

-- two runs that agree over the field make one call
pub same_run : (U W : List Card → Out) (s₀ : Start) (cards : List Card) (n : ℕ) (log list : List ℕ) → U (take n cards) ≡ W (take n cards)
    → call_of U s₀ cards n log list ≡ call_of W s₀ cards n log list
unfolding call_of
same_run U W s₀ cards n log list e = rw e

-- ---- of a sweep with the run W

module _ (W : List Card → Out) (s₀ : Start) (cards : List Card) (n : ℕ) (log list : List ℕ) where
  -- the call's numbers
  pub call_says_law : (s : Swept) (log₁ list₁ : List ℕ) → call s log₁ list₁ ≡ call_of W s₀ cards n log list → swept_says s ≡ says_of W s₀ cards n log list
  unfolding call_of done
  call_says_law s log₁ list₁ e =
      ap (λ c. swept_says c.swept) e
      ∙ go (not (is_new s₀.reader.phase)) (ltb (length log) log_room || ltb (length list) list_room) (ltb most_cards n || not (within (take n cards)))
    where
      o : Out
      o = W (take n cards)

      go : (a b d : Bool) → swept_says (cond a (call (refused s₀.reader cards NotDue) log list) (cond b (call (refused s₀.reader cards Room) log list)
          (cond d (call (refused s₀.reader cards Argument) log list) (done s₀.tick cards n log list o)))).swept
          ≡ cond a (declining 11) (cond b (declining 1) (cond d (declining 6) (turn_says o.last)))
      go true b d = refl
      go false true d = refl
      go false false true = refl
      go false false false = refl

  -- a call that gave s, and is not within the terms
  abbrev pub Declined : Swept → Type 0
  Declined s = (call s log list ≡ call_of W s₀ cards n log list) × (Terms s₀ cards n log list → ⊥)

  pub not_due : (s : Swept) → s ≡ refused s₀.reader cards NotDue → is_new s₀.reader.phase ≡ false → Declined s
  unfolding call_of
  not_due s h new = (rw (h, new), λ t. false≢true (sym new ∙ t.new))

  module _ (new : is_new s₀.reader.phase ≡ true) where
    pub no_log : (s : Swept) → s ≡ refused s₀.reader cards Room → length log < log_room → Declined s
    unfolding call_of
    no_log s h k = (rw (h, new, lt-ltb (length log) log_room k), λ t. omega (arith, t.log_has_room))

    module _ (hlog : log_room ≤ length log) where
      pub no_list : (s : Swept) → s ≡ refused s₀.reader cards Room → length list < list_room → Declined s
      unfolding call_of
      no_list s h k = (rw (h, new, le-ltb (length log) log_room hlog, lt-ltb (length list) list_room k), λ t. omega (arith, t.list_has_room))

      module _ (hlist : list_room ≤ length list) where
        pub too_many : (s : Swept) → s ≡ refused s₀.reader cards Argument → most_cards < n → Declined s
        unfolding call_of
        too_many s h k = (rw (h, new, le-ltb (length log) log_room hlog, le-ltb (length list) list_room hlist, lt-ltb most_cards n k), λ t. omega (arith, t.few))

        pub no_field : n ≤ most_cards → (s : Swept) → s ≡ refused s₀.reader cards Argument → within (take n cards) ≡ false → Declined s
        unfolding call_of
        no_field few s h k =
            (rw (h, new, le-ltb (length log) log_room hlog, le-ltb (length list) list_room hlist, le-ltb most_cards n few, k), λ t. false≢true (sym k ∙ t.field))

  -- .. says nothing of the cards
  pub ruled_out : (s : Swept) → Declined s → (call s log list ≡ call_of W s₀ cards n log list) × (Terms s₀ cards n log list → All Typed (take n cards))
  ruled_out s d = (d.0, λ t. absurd (d.1 t))

  -- within them it is the run
  pub runs : Terms s₀ cards n log list → call_of W s₀ cards n log list ≡ done s₀.tick cards n log list (W (take n cards))
  unfolding call_of
  runs t = rw (t.new, le-ltb (length log) log_room t.log_has_room, le-ltb (length list) list_room t.list_has_room, le-ltb most_cards n t.few, t.field)

-- a plain sweep's call that is the one of the definition, demand 3 of its run being known
pub promised_by : (s₀ : Start) (cards : List Card) (n : ℕ) (log list : List ℕ) (s : Swept) (log₁ list₁ : List ℕ) → call s log₁ list₁ ≡ sweep_of s₀ cards n log list
    → (Terms s₀ cards n log list → Demand3 (take n cards) (sweep (take n cards))) → Promised s₀ cards n log list s log₁ list₁
promised_by s₀ cards n log list s log₁ list₁ e claim =
    (e, record { says = call_says_law sweep s₀ cards n log list s log₁ list₁ e; run = λ t. e ∙ runs sweep s₀ cards n log list t; demand3 = claim })
