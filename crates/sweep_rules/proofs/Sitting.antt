-- The field while W is known: the idle cards whose rows begin with W are in one state, the others idle. What a frame does to it, by what it
-- does to each idle card. F is the field at the round's start. Assumes nothing.
use mathlib.Core.Path.{◌≡◌, refl, sym, ap, ap₂, ◌∙◌}
use Prim.Native.Nat.{ℕ}
use mathlib.Core.Bool.{true, false, cond, ◌||◌}
use mathlib.Core.Option.{Option, none, some}
use mathlib.Core.List.{List, [], ◌∷◌, map, map-map, cons≢nil}
use Rattle.rows.specs.ListLaws.{map_all}
use Rattle.rows.specs.Rows.{All}
use Rattle.uid.specs.Order.{Diff, on, off, diff}
use Rattle.uid.specs.StripLaws.{strip, shape}
use Rattle.uid.specs.Uid.{levels, row_of}
use Rattle.card.specs.Card.{rules, with_state, takes, answers}
use Rattle.card.proofs.CardLaws.{sit₁, rules_state}
use Rattle.field.specs.Field.{all_take, heard_from}
use Rattle.field.specs.Merge.{join, merge}
use Rattle.sweep_rules.specs.Demand.{halted}
use Rattle.sweep_rules.specs.Terms.{is_idle, is_halt}
use Rattle.sweep_rules.proofs.Abstract.{strips, leave, rest}
use Rattle.sweep_rules.proofs.Idle.{Fits, Resting, idle, halt, resting, idlers, row_in, idles}
use Rattle.sweep_rules.proofs.Strip.{merge_strips}
use Rattle.card.specs.declared.Card.{Card}
use Rattle.card.specs.declared.CardState.{CardState}
use Rattle.card.specs.declared.CardState.TheVariants.{Idle, Halt}

unfoldable pub sit : CardState → Option (List ℕ) → CardState → CardState
sit x o y = cond (is_idle y) (sit₁ false x o) y

unfoldable pub at : List ℕ → CardState → List Card → List Card
at W x F = map (λ c. with_state c (sit x (strip W (row_in c)) c.state)) F

-- a frame that halted cards pass over, by what it does to each idle card
module _ (f : List ℕ) (deaf : (c : Card) → rules c Halt f ≡ (Halt, [])) where
  pub turn_at : (W W' : List ℕ) (x x' : CardState) (F : List Card) → All Fits F
      → All (λ c. (rules c (sit₁ false x (strip W (row_in c))) f).0 ≡ sit₁ false x' (strip W' (row_in c))) (idlers F) → all_take f (at W x F) ≡ at W' x' F
  unfolding all_take takes at idlers sit
  turn_at W W' x x' [] h k = refl
  turn_at W W' x x' (c ∷ F) h k = go (resting c.state h.0.rests) k (turn_at W W' x x' F h.1)
    where
      o : Option (List ℕ)
      o = strip W (row_in c)

      o' : Option (List ℕ)
      o' = strip W' (row_in c)

      go : {y : CardState} → Resting y → All (λ c. (rules c (sit₁ false x (strip W (row_in c))) f).0 ≡ sit₁ false x' (strip W' (row_in c))) (cond (is_idle y) (c ∷ idlers F) (idlers F))
          → (All (λ c. (rules c (sit₁ false x (strip W (row_in c))) f).0 ≡ sit₁ false x' (strip W' (row_in c))) (idlers F) → all_take f (at W x F) ≡ at W' x' F)
          → with_state c (rules (with_state c (sit x o y)) (sit x o y) f).0 ∷ all_take f (at W x F) ≡ with_state c (sit x' o' y) ∷ at W' x' F
      go idle k ih = ap₂ (λ z l. with_state c z ∷ l) (ap (λ z. z.0) (rules_state c (sit₁ false x o) (sit₁ false x o) f) ∙ k.0) (ih k.1)
      go halt k ih = ap₂ (λ z l. with_state c z ∷ l) (ap (λ z. z.0) (rules_state c Halt Halt f ∙ deaf c)) (ih k)

  pub hear_at : (W : List ℕ) (x : CardState) (F : List Card) → All Fits F
      → heard_from f (at W x F) ≡ merge (map (λ c. (rules c (sit₁ false x (strip W (row_in c))) f).1) (idlers F))
  unfolding heard_from answers at idlers sit merge join
  hear_at W x [] h = refl
  hear_at W x (c ∷ F) h = go (resting c.state h.0.rests) (hear_at W x F h.1)
    where
      o : Option (List ℕ)
      o = strip W (row_in c)

      go : {y : CardState} → Resting y → heard_from f (at W x F) ≡ merge (map (λ c. (rules c (sit₁ false x (strip W (row_in c))) f).1) (idlers F))
          → join (rules (with_state c (sit x o y)) (sit x o y) f).1 (heard_from f (at W x F)) ≡ merge (map (λ c. (rules c (sit₁ false x (strip W (row_in c))) f).1) (cond (is_idle y) (c ∷ idlers F) (idlers F)))
      go idle e = ap₂ join (ap (λ z. z.1) (rules_state c (sit₁ false x o) (sit₁ false x o) f)) e
      go halt e = ap (λ z. join z.1 (heard_from f (at W x F))) (rules_state c Halt Halt f ∙ deaf c) ∙ e

  -- the idle cards answer by what their rows have left after W'
  pub hear_by : (W W' : List ℕ) (x : CardState) (F : List Card) → All Fits F → (O : Option (List ℕ) → List ℕ) → O none ≡ []
      → All (λ c. (rules c (sit₁ false x (strip W (row_in c))) f).1 ≡ O (strip W' (row_in c))) (idlers F) → heard_from f (at W x F) ≡ merge (map (λ t. O (some t)) (strips W' (idles F)))
  unfolding idles
  hear_by W W' x F h O z a =
      hear_at W x F h
      ∙ ap merge (map_all (λ c. (rules c (sit₁ false x (strip W (row_in c))) f).1) (λ c. O (strip W' (row_in c))) (idlers F) a ∙ sym (map-map (λ r. O (strip W' r)) row_in (idlers F)))
      ∙ merge_strips O W' (map row_in (idlers F)) z

pub at_rest : (W : List ℕ) (F : List Card) → All Fits F → at W Idle F ≡ F
unfolding at sit sit₁
at_rest W [] h = refl
at_rest W (c ∷ F) h = ap₂ (λ y l. with_state c y ∷ l) (go (resting c.state h.0.rests) (strip W (row_in c))) (at_rest W F h.1)
  where
    go : {y : CardState} → Resting y → (o : Option (List ℕ)) → sit Idle o y ≡ y
    go idle (some t) = refl
    go idle none = refl
    go halt o = refl

-- no card is idle: all are halted
pub none_idle : (W : List ℕ) (x : CardState) (F : List Card) → All Fits F → idlers F ≡ [] → at W x F ≡ map halted F
unfolding at sit idlers halted
none_idle W x [] h e = refl
none_idle W x (c ∷ F) h e = go (resting c.state h.0.rests) e (none_idle W x F h.1)
  where
    go : {y : CardState} → Resting y → cond (is_idle y) (c ∷ idlers F) (idlers F) ≡ [] → (idlers F ≡ [] → at W x F ≡ map halted F)
        → with_state c (sit x (strip W (row_in c)) y) ∷ at W x F ≡ with_state c Halt ∷ map halted F
    go idle e ih = absurd (cons≢nil e)
    go halt e ih = ap (λ l. with_state c Halt ∷ l) (ih e)

-- ---- the field after a round

sound_sit : (c : Card) (o : Option (List ℕ)) → Fits c → Fits (with_state c (sit Halt o c.state))
unfolding sit sit₁
sound_sit c o s = record { sound = s.sound; rests = go (resting c.state s.rests) o }
  where
    go : {y : CardState} → Resting y → (o : Option (List ℕ)) → (is_idle (sit Halt o y) || is_halt (sit Halt o y)) ≡ true
    go idle (some t) = refl
    go idle none = refl
    go halt o = refl

pub sound_halt : (W : List ℕ) (F : List Card) → All Fits F → All Fits (at W Halt F)
unfolding at
sound_halt W [] h = tt
sound_halt W (c ∷ F) h = (sound_sit c (strip W (row_in c)) h.0, sound_halt W F h.1)

pub idles_halt : (W : List ℕ) (F : List Card) → All Fits F → idles (at W Halt F) ≡ rest W (idles F)
unfolding idles idlers at sit sit₁ strip shape rest leave row_of levels
idles_halt W [] h = refl
idles_halt W (c ∷ F) h = go (resting c.state h.0.rests) (idles_halt W F h.1)
  where
    go₂ : (D : Diff) → idles (at W Halt F) ≡ rest W (idles F)
        → map row_in (cond (is_idle (sit₁ false Halt (shape D))) (with_state c (sit₁ false Halt (shape D)) ∷ idlers (at W Halt F)) (idlers (at W Halt F))) ≡ leave D (row_in c) (rest W (idles F))
    go₂ (on t) e = e
    go₂ (off p x) e = ap (λ l. row_in c ∷ l) e

    go : {y : CardState} → Resting y → idles (at W Halt F) ≡ rest W (idles F)
        → map row_in (cond (is_idle (sit Halt (strip W (row_in c)) y)) (with_state c (sit Halt (strip W (row_in c)) y) ∷ idlers (at W Halt F)) (idlers (at W Halt F)))
        ≡ rest W (map row_in (cond (is_idle y) (c ∷ idlers F) (idlers F)))
    go idle e = go₂ (diff W (row_in c)) e
    go halt e = e

pub halted_at : (W : List ℕ) (x : CardState) (F : List Card) → map halted (at W x F) ≡ map halted F
unfolding halted at
halted_at W x [] = refl
halted_at W x (c ∷ F) = ap (λ l. with_state c Halt ∷ l) (halted_at W x F)
