-- One card's turn keeps the invariant of the sweep over a row. Assumes nothing.
use mathlib.Core.Path.{◌≡◌, refl, sym, ap, subst, ◌∙◌}
use Prim.Native.Nat.{ℕ, ◌+◌, ◌-◌, ◌*◌, ◌<◌}
use native.Mathlib.Omega.{arith}
use mathlib.Core.Bool.{Bool, true, false, cond}
use mathlib.Core.List.{List}
use lib.ListN.{length, get_or, set}
use lib.Dec.{eqb}
use borrow.Author.Tests.{eqb-true, eqb-false}
use Rattle.limits.specs.Limits.{most_frames}
use Rattle.card.specs.Card.{takes}
use Rattle.reader.specs.Reader.{frame}
use Rattle.sweep_rules.specs.Demand.{Typed}
use Rattle.sweep_row.specs.declared.seen.Seen.{Seen}
use Rattle.card.specs.declared.Card.{Card}
use Rattle.sweep.specs.declared.Start.{Start}
use Rattle.sweep_row.specs.declared.within.Progress.{Progress}
use Rattle.sweep_row.specs.declared.within.Turned.{Turned}
use Rattle.sweep_row.specs.Row.{swept_row, no_card, seen_with, heard_card, air_with, finished, first_row, stopped, again, onward, back, decided, looked, took, turn_of, Ready, Turns}
use Rattle.sweep_row.specs.TurnLaws.{turned, turns_look, turns_end, turns_on}
use Rattle.sweep_row.specs.Under.{Looking, Taking, Called, UnderIf, Under, Opened, measure, pass_turns}
use Rattle.sweep_row.proofs.Taking.{taken_last, taken_next, taking_ready}
use Rattle.sweep_row.proofs.Looking.{looked_last, looked_next, looking_ready}

pub opened : (b : Bool) (start : Start) (cards : List Card) (log₀ list₀ : List ℕ) (p : Progress) (log list : List ℕ) → Opened b start (length cards) log₀ list₀ p log list → Under b start cards log₀ list₀ p cards log list
opened b start cards log₀ list₀ p log list o = o.begins cards refl

module _ (b : Bool) (start : Start) (cards₀ : List Card) (log₀ list₀ : List ℕ) (p : Progress) (ws : List Card) (log list : List ℕ) (u : Under b start cards₀ log₀ list₀ p ws log list) where
  pub ended : p.going ≡ false → Called b start cards₀ (length cards₀) log₀ list₀ (swept_row p.swept ws) log list
  ended g = subst (λ i. UnderIf b i p.looking start cards₀ log₀ list₀ p ws log list) g u

  module _ (g : p.going ≡ true) where
    abbrev c : Card
    c = get_or ws p.at no_card

    looks : p.looking ≡ true → Looking b start cards₀ log₀ list₀ p ws log list
    looks l = subst (λ i. UnderIf b true i start cards₀ log₀ list₀ p ws log list) l (subst (λ i. UnderIf b i p.looking start cards₀ log₀ list₀ p ws log list) g u)

    takes_it : p.looking ≡ false → Taking b start cards₀ log₀ list₀ p ws log list
    takes_it l = subst (λ i. UnderIf b true i start cards₀ log₀ list₀ p ws log list) l (subst (λ i. UnderIf b i p.looking start cards₀ log₀ list₀ p ws log list) g u)

    pub ready : Ready b p c log list
    ready = go p.looking refl
      where
        go : (k : Bool) → p.looking ≡ k → Ready b p c log list
        go true l = looking_ready b start cards₀ log₀ list₀ p ws log list (looks l) l
        go false l = taking_ready b start cards₀ log₀ list₀ p ws log list (takes_it l)

    pub here : p.at < length cards₀
    here = go p.looking refl
      where
        go : (k : Bool) → p.looking ≡ k → p.at < length cards₀
        go true l = (looks l).at
        go false l = (takes_it l).at

    module _ (t : Turned) (log₁ list₁ : List ℕ) (k : Turns b p c log list t log₁ list₁) where
      abbrev After : Turned → List ℕ → List ℕ → Type 0
      After t log₁ list₁ = Under b start cards₀ log₀ list₀ t.next (set ws p.at t.card) log₁ list₁

      -- two turns of the same card are the same
      same : (t' : Turned) (log₂ list₂ : List ℕ) → Turns b p c log list t' log₂ list₂ → After t' log₂ list₂ → After t log₁ list₁
      same t' log₂ list₂ k' v =
          subst (λ x. After t x list₁) (k'.log_row ∙ sym k.log_row)
          (subst (λ x. After t log₂ x) (k'.list_row ∙ sym k.list_row)
          (subst (λ x. After x log₂ list₂) (k'.is ∙ sym k.is) v))

      going_back : (q : Progress) → q.going ≡ true → q.looking ≡ true → (ws₁ : List Card) → Looking b start cards₀ log₀ list₀ q ws₁ log list → Under b start cards₀ log₀ list₀ q ws₁ log list
      going_back q e l ws₁ x = subst (λ i. UnderIf b i q.looking start cards₀ log₀ list₀ q ws₁ log list) (sym e) (subst (λ i. UnderIf b true i start cards₀ log₀ list₀ q ws₁ log list) (sym l) x)

      going_on : (q : Progress) → q.going ≡ true → q.looking ≡ false → (ws₁ : List Card) → Taking b start cards₀ log₀ list₀ q ws₁ log list → Under b start cards₀ log₀ list₀ q ws₁ log list
      going_on q e l ws₁ x = subst (λ i. UnderIf b i q.looking start cards₀ log₀ list₀ q ws₁ log list) (sym e) (subst (λ i. UnderIf b true i start cards₀ log₀ list₀ q ws₁ log list) (sym l) x)

      pub after : After t log₁ list₁
      unfolding looked heard_card
      after = go p.looking refl (eqb p.at 0) refl
        where
          go : (k : Bool) → p.looking ≡ k → (z : Bool) → eqb p.at 0 ≡ z → After t log₁ list₁
          go true l true z =
              let T : (seen_with p.seen p.at p.cards c).fits ≡ true → Typed c = λ f. k.typed f l in
              same (turned c (looked p c)) log list (turns_look b p c log list (looked p c) l refl T)
              (subst (λ x. Under b start cards₀ log₀ list₀ x (set ws p.at c) log list) (sym (ap (λ k. cond k (decided p (seen_with p.seen p.at p.cards c)) (back p (seen_with p.seen p.at p.cards c))) z))
              (looked_last b start cards₀ log₀ list₀ p ws log list (looks l) T (eqb-true p.at 0 z)))
          go true l false z =
              let T : (seen_with p.seen p.at p.cards c).fits ≡ true → Typed c = λ f. k.typed f l in
              same (turned c (looked p c)) log list (turns_look b p c log list (looked p c) l refl T)
              (subst (λ x. Under b start cards₀ log₀ list₀ x (set ws p.at c) log list) (sym (ap (λ k. cond k (decided p (seen_with p.seen p.at p.cards c)) (back p (seen_with p.seen p.at p.cards c))) z))
              (going_back (back p (seen_with p.seen p.at p.cards c)) g l (set ws p.at c) (looked_next b start cards₀ log₀ list₀ p ws log list (looks l) T (eqb-false p.at 0 z))))
          go false l true z =
              same _ _ _ (turns_end b p c log list l (heard_card p.air p.swept.reader c) refl (eqb-true p.at 0 z) (finished b p (air_with p c)) refl (again p (finished b p (air_with p c))) refl _ _ refl refl)
              (taken_last b start cards₀ log₀ list₀ p ws log list (takes_it l) (eqb-true p.at 0 z))
          go false l false z =
              same _ log list (turns_on b p c log list l (heard_card p.air p.swept.reader c) refl (eqb-false p.at 0 z) (onward p (air_with p c)) refl)
              (going_on (onward p (air_with p c)) g l (set ws p.at (takes c (frame p.swept.reader))) (taken_next b start cards₀ log₀ list₀ p ws log list (takes_it l) (eqb-false p.at 0 z)))

      -- fewer turns are to come
      decides : (s : Seen) (f : Bool) → s.fits ≡ f → measure (cond f (again p first_row) (stopped p.swept)) < pass_turns * (1 + most_frames) + p.at
      unfolding first_row
      decides s true e = omega (arith, ready.few)
      decides s false e = omega arith

      pub fewer : measure t.next < measure p
      unfolding turn_of looked decided took finished
      fewer = go p.looking refl (eqb p.at 0) refl
        where
          next : (q : Progress) → (turn_of b p c).next ≡ q → measure q < measure p → measure t.next < measure p
          next q e h = subst (λ x. measure x.next < measure p) (sym k.is) (subst (λ x. measure x < measure p) (sym e) h)

          long : p.looking ≡ true → measure p ≡ pass_turns * (1 + most_frames) + p.at
          long l = ap (λ k. cond k (pass_turns * (1 + most_frames) + p.at) (pass_turns * (most_frames - p.swept.frames) + p.at)) l

          short : p.looking ≡ false → measure p ≡ pass_turns * (most_frames - p.swept.frames) + p.at
          short l = ap (λ k. cond k (pass_turns * (1 + most_frames) + p.at) (pass_turns * (most_frames - p.swept.frames) + p.at)) l

          go : (k : Bool) → p.looking ≡ k → (z : Bool) → eqb p.at 0 ≡ z → measure t.next < measure p
          go true l true z =
              next (decided p (seen_with p.seen p.at p.cards c))
              (ap (λ k. (cond k (turned c (looked p c)) (turned (takes c (frame p.swept.reader)) (took b p c))).next) l ∙ ap (λ k. cond k (decided p (seen_with p.seen p.at p.cards c)) (back p (seen_with p.seen p.at p.cards c))) z)
              (rw (long l) (decides (seen_with p.seen p.at p.cards c) (seen_with p.seen p.at p.cards c).fits refl))
          go true l false z =
              next (back p (seen_with p.seen p.at p.cards c))
              (ap (λ k. (cond k (turned c (looked p c)) (turned (takes c (frame p.swept.reader)) (took b p c))).next) l ∙ ap (λ k. cond k (decided p (seen_with p.seen p.at p.cards c)) (back p (seen_with p.seen p.at p.cards c))) z)
              (let e : measure (back p (seen_with p.seen p.at p.cards c)) ≡ pass_turns * (1 + most_frames) + (p.at - 1) = ap (λ k. cond k (pass_turns * (1 + most_frames) + (p.at - 1)) (pass_turns * (most_frames - p.swept.frames) + (p.at - 1))) l in
              omega (arith, long l, e, eqb-false p.at 0 z))
          go false l true z =
              next (again p (finished b p (air_with p c)))
              (ap (λ k. (cond k (turned c (looked p c)) (turned (takes c (frame p.swept.reader)) (took b p c))).next) l ∙ ap (λ k. cond k (again p (finished b p (air_with p c))) (onward p (air_with p c))) z)
              (omega (arith, short l, ready.few, (ready.room l (eqb-true p.at 0 z)).more))
          go false l false z =
              next (onward p (air_with p c))
              (ap (λ k. (cond k (turned c (looked p c)) (turned (takes c (frame p.swept.reader)) (took b p c))).next) l ∙ ap (λ k. cond k (again p (finished b p (air_with p c))) (onward p (air_with p c))) z)
              (let e : measure (onward p (air_with p c)) ≡ pass_turns * (most_frames - p.swept.frames) + (p.at - 1) = ap (λ k. cond k (pass_turns * (1 + most_frames) + (p.at - 1)) (pass_turns * (most_frames - p.swept.frames) + (p.at - 1))) l in
              omega (arith, short l, e, eqb-false p.at 0 z))
