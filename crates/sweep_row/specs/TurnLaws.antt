-- Laws of one card's turn: which of its tests applies. Assumes nothing.
use Rattle.std.specs.Prelude.{◌≡◌, ℕ, ◌*◌, Bool, cond, List}
use Rattle.std.proofs.Common.{sym, ◌∙◌}
use Rattle.std.proofs.Math.Path.{ap, ap₂}
use Rattle.std.proofs.Math.Bool.{true, false}
use Rattle.std.proofs.lemmas.Bool.{false≢true}
use Rattle.std.proofs.Math.Dec.{eqb}
use borrow.Author.Tests.{eq-eqb, ne_eqb}
use Rattle.rows.specs.Rows.{overlay}
use Rattle.air_log.specs.Log.{exchange_bytes, list_bytes}
use Rattle.sweep_rules.specs.Demand.{Typed}
use Rattle.sweep_steps.specs.Steps.{found_by}
use Rattle.card.specs.declared.Card.{Card}
use Rattle.sweep_row.specs.declared.air.HeardCard.{HeardCard}
use Rattle.sweep_row.specs.declared.finish.RowReached.{RowReached}
use Rattle.sweep_row.specs.declared.within.Progress.{Progress}
use Rattle.sweep_row.specs.declared.within.Turned.{Turned}
use Rattle.sweep_row.specs.Row.{heard_card, seen_with, finished, row_tick, exchange_with, heard_by, again, onward, looked, took, turn_of, log_of, list_of, Turns}

abbrev pub turned : Card → Progress → Turned
turned c p = record { card = c; next = p }

yes : {A : Type 0} (b : Bool) (x y : A) → b ≡ true → x ≡ cond b x y
yes b x y e = sym (ap (λ t. cond t x y) e)

no : {A : Type 0} (b : Bool) (x y : A) → b ≡ false → y ≡ cond b x y
no b x y e = sym (ap (λ t. cond t x y) e)

module _ (b : Bool) (p : Progress) (c : Card) (log list : List ℕ) where
  pub turns_look : (q : Progress) → p.looking ≡ true → q ≡ looked p c → ((seen_with p.seen p.at p.cards c).fits ≡ true → Typed c)
      → Turns b p c log list (turned c q) log list
  unfolding turn_of log_of list_of
  turns_look q l e t =
      record {
        is = ap (turned c) e ∙ yes p.looking (turned c (looked p c)) _ l;
        log_row = yes p.looking log _ l;
        list_row = yes p.looking list _ l;
        typed = λ f g. t f;
      }

  module _ (l : p.looking ≡ false) (h : HeardCard) (e : h ≡ heard_card p.air p.swept.reader c) where
    pub turns_end : p.at ≡ 0 → (f : RowReached) → f ≡ finished b p h.air → (q : Progress) → q ≡ again p f
        → (log₁ list₁ : List ℕ) → log₁ ≡ overlay log p.swept.logged (exchange_bytes (row_tick p) (exchange_with p.swept.reader h.air))
        → list₁ ≡ overlay list (11 * p.swept.found) (list_bytes (found_by (heard_by b p h.air).turn))
        → Turns b p c log list (turned h.card q) log₁ list₁
    unfolding turn_of took log_of list_of heard_card
    turns_end z f ef q eq log₁ list₁ a v =
        let t : eqb p.at 0 ≡ true = eq-eqb p.at 0 z in
        record {
          is = ap₂ turned (ap (λ k. k.card) e) (eq ∙ ap (again p) (ef ∙ ap (λ k. finished b p k.air) e) ∙ yes (eqb p.at 0) _ _ t) ∙ no p.looking _ _ l;
          log_row = a ∙ ap (λ k. overlay log p.swept.logged (exchange_bytes (row_tick p) (exchange_with p.swept.reader k.air))) e ∙ yes (eqb p.at 0) _ _ t ∙ no p.looking _ _ l;
          list_row = v ∙ ap (λ k. overlay list (11 * p.swept.found) (list_bytes (found_by (heard_by b p k.air).turn))) e ∙ yes (eqb p.at 0) _ _ t ∙ no p.looking _ _ l;
          typed = λ f g. absurd (false≢true (sym l ∙ g));
        }

    pub turns_on : (p.at ≡ 0 → ⊥) → (q : Progress) → q ≡ onward p h.air → Turns b p c log list (turned h.card q) log list
    unfolding turn_of took log_of list_of heard_card
    turns_on z q eq =
        let t : eqb p.at 0 ≡ false = ne_eqb p.at 0 z in
        record {
          is = ap₂ turned (ap (λ k. k.card) e) (eq ∙ ap (λ k. onward p k.air) e ∙ no (eqb p.at 0) _ _ t) ∙ no p.looking _ _ l;
          log_row = no (eqb p.at 0) _ log t ∙ no p.looking _ _ l;
          list_row = no (eqb p.at 0) _ list t ∙ no p.looking _ _ l;
          typed = λ f g. absurd (false≢true (sym l ∙ g));
        }
