-- Laws of the loop: what is left of the run, exchange by exchange. Assumes nothing.
use Rattle.std.specs.Prelude.{◌≡◌, Bool, ◌&&◌, take}
use Rattle.std.proofs.Math.Path.{refl, sym, ap, ap₂}
use Rattle.std.proofs.Common.{◌∙◌, arith, take-append-drop}
use Prim.Native.Nat.{ℕ, suc, ◌+◌, ◌-◌, ◌≤◌, ◌<◌}
use Rattle.std.proofs.Math.Bool.{true, false}
use mathlib.Core.List.{List, ◌++◌}
use Rattle.std.proofs.Math.ListN.{length, drop}
use Rattle.std.proofs.Math.Dec.{ltb}
use borrow.Author.Tests.{ltb-true, ltb-false}
use Rattle.rows.specs.ListLaws.{both}
use Rattle.limits.specs.Limits.{most_cards}
use Rattle.uid.specs.Uid.{levels}
use Rattle.reader.specs.Reader.{frame, sends}
use Rattle.sweep_rules.specs.Run.{Out, before, ended, plain, run}
use Rattle.sweep_steps.specs.Steps.{goes, exchange_of, found_by}
use Rattle.sweep_steps.specs.LeftLaws.{with_found, take_after, drop_after, length_after}
use Rattle.sweep_steps.specs.RunLaws.{rest, after, rest_step, rest_stops, rest_spent}
use Rattle.wake_rules.specs.Wake.{wake}
use Rattle.uid.specs.declared.Uid.{Uid}
use Rattle.card.specs.declared.Card.{Card}
use Rattle.reader.specs.declared.Turn.{Turn}
use Rattle.wake.specs.Steps.{turn_in, with_turn, started, stepped, goes_on}
use Rattle.wake.specs.Wake.{done}
use Rattle.wake.specs.declared.Woken.{Woken}

-- what is left of a run of at most `most` frames
abbrev left : Woken → ℕ → ℕ → Out
left w n most = rest plain (most - w.frames) (turn_in w) (take n w.cards)

-- the whole run is W, over the first n of cards₀; so far it is at w
pub record Under (W : Out) (cards₀ : List Card) (n most : ℕ) (w : Woken) : Type 0 where
  pub full : length w.cards ≡ most_cards
  pub frames : w.frames + length (left w n most).exchanges ≡ length W.exchanges
  pub cards : (left w n most).cards ≡ W.cards
  pub last : (left w n most).last ≡ W.last
  pub others : drop n w.cards ≡ drop n cards₀

-- before the first exchange all is left
pub under_none : (w : Woken) (u : Uid) (cards : List Card) (n most : ℕ) → w ≡ started u cards → length cards ≡ most_cards
    → Under (rest plain most (turn_in w) (take n w.cards)) w.cards n most w
unfolding started
under_none w u cards n most e h =
    let z : w.frames ≡ 0 = ap (λ x. x.frames) e in
    let k : most - w.frames ≡ most = omega arith in
    record { full = ap (λ x. length x.cards) e ∙ h; frames = rw k (omega arith); cards = rw k; last = rw k; others = refl }

pub wake_rest : (w : Woken) (u : Uid) (cards : List Card) (n most : ℕ) → w ≡ started u cards → most ≡ suc (length (levels u))
    → done w.cards n (rest plain most (turn_in w) (take n w.cards)) ≡ done cards n (wake u (take n cards))
unfolding started wake rest run sends
wake_rest w u cards n most e h = rw (e, h)

goes_on_law : (w : Woken) (most : ℕ) → goes_on w most ≡ true → (w.frames < most) × (goes w.answer ≡ true)
unfolding goes_on
goes_on_law w most g =
    let b : (ltb w.frames most ≡ true) × (goes w.answer ≡ true) = both (ltb w.frames most) (goes w.answer) g in
    (ltb-true w.frames most b.0, b.1)

pub under_fewer : (w : Woken) (most : ℕ) → goes_on w most ≡ true → w.frames < most
under_fewer w most g = (goes_on_law w most g).0

made : (t t' : Turn) (c c' : List Card) (k k' : ℕ) → t ≡ t' → c ≡ c' → k ≡ k' → with_turn t c k ≡ with_turn t' c' k'
made t t' c c' k k' e f g = rw (e, f, g)

module _ (W : Out) (cards₀ : List Card) (n most : ℕ) (w : Woken) (v : Under W cards₀ n most w) (few : n ≤ most_cards) where
  -- what is left is the next exchange, and what is left after it
  module _ (g : goes_on w most ≡ true) where
    step : left w n most ≡ before (exchange_of w.reader (take n w.cards)) (with_found (found_by (turn_in (stepped w n))) (left (stepped w n) n most))
    unfolding stepped after
    step =
        let e : most - w.frames ≡ suc (most - (w.frames + 1)) = omega (arith, (goes_on_law w most g).0) in
        rw (e, take_after w.cards n (frame w.reader) (omega (arith, v.full))) (rest_step plain (most - (w.frames + 1)) (turn_in w) (take n w.cards) (goes_on_law w most g).1)

    pub under_turn : Under W cards₀ n most (stepped w n)
    unfolding stepped before with_found
    under_turn =
        record {
          full = length_after w.cards n (frame w.reader) (omega (arith, v.full)) ∙ v.full;
          frames = omega (arith, v.frames, ap (λ o. length o.exchanges) step);
          cards = sym (ap (λ o. o.cards) step) ∙ v.cards;
          last = sym (ap (λ o. o.last) step) ∙ v.last;
          others = drop_after w.cards n (frame w.reader) (omega (arith, v.full)) ∙ v.others;
        }

  -- the loop is over
  none : goes_on w most ≡ false → left w n most ≡ ended (take n w.cards) (turn_in w)
  unfolding goes_on
  none g = go (ltb w.frames most) refl g
    where
      go : (b : Bool) → ltb w.frames most ≡ b → (b && goes w.answer) ≡ false → left w n most ≡ ended (take n w.cards) (turn_in w)
      go true e k = rest_stops plain (most - w.frames) (turn_in w) (take n w.cards) k
      go false e k = let z : most - w.frames ≡ 0 = omega (arith, ltb-false w.frames most e) in rw z (rest_spent plain (turn_in w) (take n w.cards))

  pub under_ends : goes_on w most ≡ false → w ≡ done cards₀ n W
  unfolding done ended
  under_ends g =
      let t : turn_in w ≡ W.last = ap (λ o. o.last) (sym (none g)) ∙ v.last in
      let c : w.cards ≡ W.cards ++ drop n cards₀ = sym (take-append-drop n w.cards) ∙ ap₂ ◌++◌ (ap (λ o. o.cards) (sym (none g)) ∙ v.cards) v.others in
      let k : w.frames ≡ length W.exchanges = omega (arith, v.frames, ap (λ o. length o.exchanges) (none g)) in
      made (turn_in w) W.last w.cards (W.cards ++ drop n cards₀) w.frames (length W.exchanges) t c k

-- fewer frames are left after each
pub fewer_left : (w w' : Woken) (n most : ℕ) → w.frames < most → w' ≡ stepped w n → most - w'.frames < most - w.frames
unfolding stepped
fewer_left w w' n most h e = omega (arith, ap (λ q. q.frames) e)
