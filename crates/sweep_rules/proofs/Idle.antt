-- The cards of a field within the terms, and those of them that are idle. Assumes nothing.
use mathlib.Core.Path.{◌≡◌, refl, ap}
use Prim.Native.Nat.{ℕ, suc, ◌≤◌}
use mathlib.Core.Bool.{Bool, true, false, cond, ◌||◌, false≢true}
use mathlib.Core.List.{List, [], ◌∷◌, map}
use lib.ListN.{length}
use native.Mathlib.Omega.{arith}
use Rattle.rows.specs.Rows.{All}
use Rattle.uid.specs.Uid.{row_of}
use Rattle.uid.specs.UidLaws.{Sound}
use Rattle.sweep_rules.specs.Demand as demand
use Rattle.sweep_rules.specs.Terms.{is_idle, is_halt}
use Rattle.uid.specs.declared.UidSize.{UidSize}
use Rattle.card.specs.declared.Card.{Card}
use Rattle.card.specs.declared.CardState.{CardState}
use Rattle.card.specs.declared.CardState.TheVariants.{Off, Idle, Ready, Active, Halt, ReadyStar, ActiveStar, Protocol}

-- a card within the terms
pub record Fits (c : Card) : Type 0 where
  pub sound : Sound c.uid
  pub rests : (is_idle c.state || is_halt c.state) ≡ true

-- its state is one of two
pub data Resting : CardState → Type 0 where
  idle : Resting Idle
  halt : Resting Halt

pub resting : (y : CardState) → (is_idle y || is_halt y) ≡ true → Resting y
resting Idle h = idle
resting Halt h = halt
resting Off h = absurd (false≢true h)
resting (Ready l) h = absurd (false≢true h)
resting Active h = absurd (false≢true h)
resting (ReadyStar l) h = absurd (false≢true h)
resting ActiveStar h = absurd (false≢true h)
resting (Protocol i) h = absurd (false≢true h)

-- the idle cards
unfoldable pub idlers : List Card → List Card
idlers [] = []
idlers (c ∷ F) = cond (is_idle c.state) (c ∷ idlers F) (idlers F)

abbrev pub row_in : Card → List ℕ
row_in c = row_of c.uid

-- their rows
unfoldable pub idles : List Card → List (List ℕ)
idles F = map row_in (idlers F)

-- their sizes
unfoldable pub sizes : List Card → List UidSize
sizes F = map (λ c. c.uid.size) (idlers F)

-- their UIDs
pub idle_uids : (F : List Card) → demand.idle F ≡ map (λ c. c.uid) (idlers F)
unfolding demand.idle idlers
idle_uids [] = refl
idle_uids (c ∷ F) = go (is_idle c.state) (idle_uids F)
  where
    go : (b : Bool) → demand.idle F ≡ map (λ c. c.uid) (idlers F) → cond b (c.uid ∷ demand.idle F) (demand.idle F) ≡ map (λ c. c.uid) (cond b (c ∷ idlers F) (idlers F))
    go true e = ap (λ l. c.uid ∷ l) e
    go false e = e

pub all_idle : (G : Card → Type 0) (F : List Card) → All G F → All G (idlers F)
unfolding idlers
all_idle G [] h = tt
all_idle G (c ∷ F) h = go (is_idle c.state) (all_idle G F h.1)
  where
    go : (b : Bool) → All G (idlers F) → All G (cond b (c ∷ idlers F) (idlers F))
    go true i = (h.0, i)
    go false i = i

pub few_idle : (F : List Card) → length (idlers F) ≤ length F
unfolding idlers
few_idle [] = omega arith
few_idle (c ∷ F) = go (is_idle c.state) (few_idle F)
  where
    go : (b : Bool) → length (idlers F) ≤ length F → length (cond b (c ∷ idlers F) (idlers F)) ≤ suc (length F)
    go true i = omega arith
    go false i = omega arith
