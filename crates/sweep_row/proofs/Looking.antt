-- The first pass over a row: is it a field that a sweep takes? Assumes nothing.
use mathlib.Core.Path.{◌≡◌, refl, sym, ap, ap₂, subst, ◌∙◌}
use Prim.Native.Nat.{ℕ, suc, ◌-◌, ◌<◌}
use native.Mathlib.Omega.{arith}
use mathlib.Core.Bool.{Bool, true, false, cond, false≢true}
use mathlib.Core.List.{List}
use lib.ListN.{length, take, get_or, set}
use borrow.Author.Tests.{le-leb}
use Rattle.reader.specs.Reader.{frame, sends}
use Rattle.field.specs.TakeLaws as take-laws
use Rattle.sweep_rules.specs.Demand.{Typed}
use Rattle.limits.specs.Limits.{most_cards}
use Rattle.sweep_rules.specs.Terms.{within}
use Rattle.memory.specs.Stored.{path_of}
use Rattle.sweep.proofs.CallLaws.{ruled_out, no_field}
use Rattle.sweep_steps.specs.Loop.{sweeper, first_recall, swept_if}
use Rattle.sweep_steps.specs.RunLaws as run-laws
use Rattle.sweep_steps.specs.Steps as steps
use Rattle.card.specs.declared.Card.{Card}
use Rattle.reader.specs.declared.Turn.{Turn}
use Rattle.sweep.specs.declared.Start.{Start}
use Rattle.sweep.specs.declared.Swept.{Swept}
use Rattle.sweep_row.specs.declared.within.Progress.{Progress}
use Rattle.sweep_row.specs.declared.seen.Seen.{Seen}
use Rattle.sweep_row.specs.PadLaws.{take_padded, length_padded, take_row, take_start}
use Rattle.sweep_row.specs.Row.{swept_row, no_card, silence, none_seen, seen_with, first_row, goes_on, looks, again, back, stopped, decided, Ready}
use Rattle.sweep_row.specs.SeenLaws.{SeenFrom, seen_none, seen_next, set_own}
use Rattle.sweep_row.specs.Under.{padded, Begun, Looking, Taking, Called, UnderIf, Under}

-- it begins
pub looking_first : (b : Bool) (start : Start) (cards : List Card) (log list : List ℕ) → Begun start cards log list → 0 < length cards → Looking b start cards log list (looks start (length cards)) cards log list
looking_first b start cards log list begun h =
    let e : length cards ≡ suc (length cards - 1) = omega arith in
    record {
      begun = begun;
      row = refl;
      log_row = refl;
      list_row = refl;
      count = refl;
      at = omega arith;
      bits = omega arith;
      tick = refl;
      refused = refl;
      seen = subst (λ i. SeenFrom cards i none_seen) e (seen_none cards begun.few);
    }

first_goes : goes_on first_row.swept ≡ true
unfolding goes_on first_row sends
first_goes = refl

module _ (b : Bool) (start : Start) (cards₀ : List Card) (log₀ list₀ : List ℕ) (p : Progress) (ws : List Card) (log list : List ℕ) (L : Looking b start cards₀ log₀ list₀ p ws log list) where
  abbrev N : ℕ
  N = length cards₀

  abbrev c : Card
  c = get_or ws p.at no_card

  abbrev s : Seen
  s = seen_with p.seen p.at p.cards c

  pub looking_ready : p.looking ≡ true → Ready b p c log list
  looking_ready l =
      record {
        at = omega (arith, L.at, L.count);
        few = omega (arith, L.begun.few, L.count);
        bits = L.bits;
        room = λ f z. absurd (false≢true (sym f ∙ l));
      }

  same : set ws p.at c ≡ cards₀
  same = set_own ws p.at no_card ∙ L.row

  module _ (t : s.fits ≡ true → Typed c) where
    abbrev At : ℕ → List Card → Seen
    At m k = seen_with p.seen p.at m (get_or k p.at no_card)

    seen : SeenFrom cards₀ p.at s
    seen =
        subst (λ m. ((At m ws).fits ≡ true → Typed c) → SeenFrom cards₀ p.at (At m ws)) (sym L.count)
        (subst (λ k. ((At N k).fits ≡ true → Typed (get_or k p.at no_card)) → SeenFrom cards₀ p.at (At N k)) (sym L.row) (seen_next cards₀ L.begun.few p.at L.at p.seen L.seen)) t

    -- the next card
    pub looked_next : (p.at ≡ 0 → ⊥) → Looking b start cards₀ log₀ list₀ (back p s) (set ws p.at c) log list
    looked_next z =
        let e : p.at ≡ suc (p.at - 1) = omega (arith, z) in
        record {
          begun = L.begun;
          row = same;
          log_row = L.log_row;
          list_row = L.list_row;
          count = L.count;
          at = omega (arith, L.at);
          bits = L.bits;
          tick = L.tick;
          refused = L.refused;
          seen = subst (λ i. SeenFrom cards₀ i s) e seen;
        }

    -- all cards are seen
    module _ (z : p.at ≡ 0) where
      all : SeenFrom cards₀ 0 s
      all = subst (λ i. SeenFrom cards₀ i s) z seen

      is_within : within cards₀ ≡ s.fits
      unfolding within
      is_within = rw (le-leb N most_cards L.begun.few) (sym all.fits)

      starts : s.fits ≡ true → Taking b start cards₀ log₀ list₀ (again p first_row) (set ws p.at c) log list
      unfolding first_row swept_if sends path_of
      starts g =
          let e : N ≡ suc (p.cards - 1) = omega (arith, L.count, L.at) in
          let k : take N (padded N cards₀) ≡ cards₀ = take_padded N cards₀ refl in
          let f : List ℕ = frame first_row.swept.reader in
          let first : Turn = first_recall.turn in
          let U : List Card → List Card → List ℕ → List ℕ → Type 0 = λ w k x y. run-laws.Under (sweeper b) start.tick (swept_if b w) (padded N cards₀) N log₀ list₀ first_recall (steps.at_first first k) x y in
          let u : U cards₀ (padded N cards₀) log₀ list₀ =
          subst (λ w. U w (padded N cards₀) log₀ list₀) k (run-laws.under_none (sweeper b) start.tick first_recall (padded N cards₀) N log₀ list₀ refl (length_padded N cards₀ refl L.begun.few)) in
          let v : U cards₀ (padded N cards₀) log list = subst (λ x. U cards₀ (padded N cards₀) x list) (sym L.log_row) (subst (λ x. U cards₀ (padded N cards₀) log₀ x) (sym L.list_row) u) in
          record {
            begun = L.begun;
            field = is_within ∙ g;
            typed = all.typed g;
            cs = cards₀;
            heard₀ = silence.heard;
            size = refl;
            count = L.count;
            at = omega (arith, L.count, L.at);
            goes = first_goes;
            tick = L.tick;
            sweep_at = subst (λ m. U cards₀ (padded m cards₀) log list) (sym L.count) v;
            take_at =
                subst (λ w. take-laws.Under silence.heard cards₀ N f silence.heard w 0 (suc (p.cards - 1))) (sym same)
                (subst (take-laws.Under silence.heard cards₀ N f silence.heard cards₀ 0) e (take_start f silence.heard cards₀));
          }

      declines : s.fits ≡ false → Called b start cards₀ N log₀ list₀ (swept_row p.swept (set ws p.at c)) log list
      declines g =
          let w : Swept = swept_row p.swept (set ws p.at c) in
          subst (λ x. Called b start cards₀ N log₀ list₀ w x list) (sym L.log_row)
          (subst (λ x. Called b start cards₀ N log₀ list₀ w log₀ x) (sym L.list_row)
          (ruled_out (swept_if b) start cards₀ N log₀ list₀ w
          (no_field (swept_if b) start cards₀ N log₀ list₀ L.begun.new L.begun.log_has_room L.begun.list_has_room L.begun.few w (ap₂ swept_row L.refused same) (ap within (take_row N cards₀ refl) ∙ is_within ∙ g))))

      pub looked_last : Under b start cards₀ log₀ list₀ (decided p s) (set ws p.at c) log list
      unfolding decided
      looked_last = go s.fits refl
        where
          go : (g : Bool) → s.fits ≡ g → Under b start cards₀ log₀ list₀ (cond g (again p first_row) (stopped p.swept)) (set ws p.at c) log list
          go true e = subst (λ g. UnderIf b g false start cards₀ log₀ list₀ (again p first_row) (set ws p.at c) log list) (sym first_goes) (starts e)
          go false e = declines e
