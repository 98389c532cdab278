-- A call by the tests that stand ahead of its rules. Assumes nothing.
use Rattle.std.specs.Prelude.{◌≡◌, refl, ℕ, Bool, true, false, cond, not, List, ltb, Ok, Err}
use Rattle.limits.specs.Limits.{row_room}
use Rattle.refusal.specs.declared.Refusal.{Refusal}
use Rattle.refusal.specs.declared.Refusal.TheVariants.{Room, NotDue}
use Rattle.block.specs.Out.{Out}
use Rattle.block.specs.Row.{tested}
use Rattle.card_link.specs.declared.LinkCard.{LinkCard}
use Rattle.card.specs.declared.CardState.{CardState}
use Rattle.card.specs.declared.CardState.TheVariants.{Off, Idle, Ready, Active, Halt, ReadyStar, ActiveStar, Protocol}
use Rattle.card_link.specs.CardCalls.{called, declined, takes_in, takes_outside}

-- a call that is declined there changes nothing
pub called_err : (due : Bool) (x : LinkCard) (buffer : List ℕ) (room : ℕ) (o : Out LinkCard) (e : Refusal) → tested due room ≡ Err e → called due x buffer room o ≡ declined x buffer e
unfolding called
called_err due x buffer room o e k = go due (ltb room row_room) k
  where
    go : (d r : Bool) → cond (not d) (Err NotDue) (cond r (Err Room) (Ok (tt {0}))) ≡ Err e → cond (not d) (declined x buffer NotDue) (cond r (declined x buffer Room) o) ≡ declined x buffer e
    go false r k = cc
    go true true k = cc
    go true false k = cc

-- any other comes to its rules, and has the room that they ask for
pub called_ok : (due : Bool) (x : LinkCard) (buffer : List ℕ) (room : ℕ) (o : Out LinkCard) (u : Unit) → tested due room ≡ Ok u → called due x buffer room o ≡ o
unfolding called
called_ok due x buffer room o u k = go due (ltb room row_room) k
  where
    go : (d r : Bool) → cond (not d) (Err NotDue) (cond r (Err Room) (Ok (tt {0}))) ≡ Ok u → cond (not d) (declined x buffer NotDue) (cond r (declined x buffer Room) o) ≡ o
    go false r k = cc
    go true true k = cc
    go true false k = refl

-- a card in any state but Protocol takes a frame as one outside it
pub takes_outside_law : (x : LinkCard) (s : CardState) (f m buffer : List ℕ) → ((i : ℕ) → s ≡ Protocol i → ⊥) → takes_in s x f m buffer ≡ takes_outside x f buffer
takes_outside_law x (Protocol i) f m buffer n = absurd (n i refl)
takes_outside_law x Off f m buffer n = refl
takes_outside_law x Idle f m buffer n = refl
takes_outside_law x (Ready l) f m buffer n = refl
takes_outside_law x Active f m buffer n = refl
takes_outside_law x Halt f m buffer n = refl
takes_outside_law x (ReadyStar l) f m buffer n = refl
takes_outside_law x ActiveStar f m buffer n = refl
