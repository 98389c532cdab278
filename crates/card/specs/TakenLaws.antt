-- A step of the rules as the code hands it back: the card and its answer, and the lent row. Assumes nothing.
use Rattle.std.specs.Prelude.{◌≡◌, refl, ◌≢◌, ℕ, Bool, List, [], ◌∷◌, length, Some}
use Rattle.std.proofs.Common.{sym, ap, ap₂, ◌∙◌}
use Rattle.rows.specs.ListLaws.{is_nil_law}
use Rattle.rows.proofs.RowLaws.{overlay_nil}
use Rattle.rows.specs.Rows.{overlay, same}
use Rattle.card.specs.Calls.{taken, answer_of, bits_in}
use Rattle.card.specs.Card.{Step, with_state}
use Rattle.card.specs.declared.Card.{Card}
use Rattle.card.specs.declared.CardState.{CardState}
use Rattle.card.specs.declared.Taken.{Taken}

-- what was handed back for a step is what is asked for an equal one
pub handed : (c : Card) (out : List ℕ) {s t : Step} {r : Taken} {o : List ℕ} → s ≡ t → (r ≡ taken c s) × (o ≡ overlay out 0 s.1) → (r ≡ taken c t) × (o ≡ overlay out 0 t.1)
handed c out e h = (h.0 ∙ ap (taken c) e, h.1 ∙ ap (λ s. overlay out 0 s.1) e)

-- a silent card leaves the lent row as it is
pub unmoved : (c : Card) (out : List ℕ) {x : CardState} {t : Step} {r : Taken} → ◌≡◌ {A = Step} (x, []) t → r ≡ taken c (x, []) → (r ≡ taken c t) × (out ≡ overlay out 0 t.1)
unmoved c out e h = handed c out e (h, sym (overlay_nil out 0))

pub sends_none : (c : Card) (x : CardState) (row : List ℕ) → length row ≡ 0 → taken c (x, []) ≡ taken c (x, row)
sends_none c x row e = ap (λ r. taken c (x, r)) (sym (is_nil_law row e))

some_bits : (row : List ℕ) → length row ≢ 0 → Some (length row) ≡ answer_of row
some_bits [] n = absurd (n refl)
some_bits (b ∷ row) n = refl

pub sends_some : (c k : Card) (x : CardState) (row : List ℕ) → k ≡ with_state c x → length row ≢ 0 → ◌≡◌ {A = Taken} (record { card = k; answer = Some (length row) }) (taken c (x, row))
sends_some c k x row e n = ap₂ (λ k a. record { card = k; answer = a }) e (some_bits row n)

-- what a comparison with a frame told
pub told : (f : List ℕ) {r b : Bool} {g h : List ℕ} → r ≡ same f g → g ≡ h → r ≡ b → same f h ≡ b
told f p q t = ap (same f) (sym q) ∙ sym p ∙ t

-- an answer's bits are those of the row
pub bits_answer : (r : List ℕ) → bits_in (answer_of r) ≡ length r
bits_answer [] = refl
bits_answer (x ∷ r) = refl
