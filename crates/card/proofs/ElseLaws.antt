-- "Else": what a state does with a frame that it does not await. Document 01, "The card": every such frame leaves the card silent.
-- Assumes nothing.
use Rattle.std.specs.Prelude.{◌≡◌, refl, ◌≢◌, ℕ, ◌<◌, Bool, true, false, cond, ◌&&◌, List, [], length, get_or, ltb}
use Rattle.std.proofs.Common.{ap, ◌∙◌, ltb-true}
use Rattle.rows.specs.ListLaws.{same_ne}
use Rattle.uid.specs.Uid.{place, levels}
use Rattle.selection.specs.Selection.{reqa, wupa, hlta, anticollision, select, rats}
use Rattle.selection.specs.SelectionLaws.{length_reqa, length_wupa}
use Rattle.card.specs.Card.{bits_sent, fsdi, home, ready_in, active_in, ready, ready_at, active, rules}
use Rattle.uid.specs.declared.Level.{Level}
use Rattle.card.specs.declared.Card.{Card}
use Rattle.card.specs.declared.CardState.{CardState}
use Rattle.card.specs.declared.CardState.TheVariants.{Off, Idle, Ready, Active, Halt, ReadyStar, ActiveStar, Protocol}

-- the state after "else"
abbrev pub else_of : CardState → CardState
else_of Off = Off
else_of Idle = Idle
else_of (Ready l) = Idle
else_of Active = Idle
else_of Halt = Halt
else_of (ReadyStar l) = Halt
else_of ActiveStar = Halt
else_of (Protocol i) = Protocol i

-- the five bytes of a card's level
abbrev pub five_at : Card → Level → List ℕ
five_at c l = get_or (levels c.uid) (place l) []

-- no frame that a card awaits in Ready, in Active
abbrev pub Unready : Card → Level → List ℕ → Type 0
Unready c l f = place l < length (levels c.uid) → (bits_sent f < 40 → f ≢ anticollision l (bits_sent f) (five_at c l)) × (f ≢ select l (five_at c l))

abbrev pub Unactive : List ℕ → Type 0
Unactive f = (f ≢ hlta) × (f ≢ rats (fsdi f))

-- no frame that the state awaits
abbrev pub Unawaited : Card → CardState → List ℕ → Type 0
Unawaited c Off f = Unit {0}
Unawaited c Idle f = (f ≢ reqa) × (f ≢ wupa)
Unawaited c (Ready l) f = Unready c l f
Unawaited c Active f = Unactive f
Unawaited c Halt f = f ≢ wupa
Unawaited c (ReadyStar l) f = Unready c l f
Unawaited c ActiveStar f = Unactive f
Unawaited c (Protocol i) f = Unit {0}

and_false : (b : Bool) → (b && false) ≡ false
and_false true = refl
and_false false = refl

ready_none : (c : Card) (w : Bool) (l : Level) (five f : List ℕ) → (bits_sent f < 40 → f ≢ anticollision l (bits_sent f) five) → f ≢ select l five → ready c w l five f ≡ (home w, [])
unfolding ready
ready_none c w l five f a s = go (ltb (bits_sent f) 40) refl
  where
    go : (b : Bool) → ltb (bits_sent f) 40 ≡ b → ready c w l five f ≡ (home w, [])
    go true e = rw (same_ne f (anticollision l (bits_sent f) five) (a (ltb-true (bits_sent f) 40 e)), and_false, same_ne f (select l five) s)
    go false e = rw (e, same_ne f (select l five) s)

-- one law for a card that was woken and for one that was not
at_none : (c : Card) (w : Bool) (l : Level) (f : List ℕ) → Unready c l f → ready_at c w l f ≡ (home w, [])
at_none c w l f h = go (ltb (place l) (length (levels c.uid))) refl
  where
    go : (b : Bool) → ltb (place l) (length (levels c.uid)) ≡ b → cond b (ready c w l (five_at c l) f) (home w, []) ≡ (home w, [])
    go true e =
        let k : place l < length (levels c.uid) = ltb-true (place l) (length (levels c.uid)) e in
        ready_none c w l (five_at c l) f (h k).0 (h k).1
    go false e = refl

active_none : (c : Card) (w : Bool) (f : List ℕ) → Unactive f → active c w f ≡ (home w, [])
active_none c w f h = rw (same_ne f hlta h.0, same_ne f (rats (fsdi f)) h.1, and_false)

pub else_is : (c : Card) (y : CardState) (f : List ℕ) → Unawaited c y f → rules c y f ≡ (else_of y, [])
unfolding rules
else_is c Off f h = refl
else_is c Idle f h = rw (same_ne f reqa h.0, same_ne f wupa h.1)
else_is c (Ready l) f h = at_none c false l f h
else_is c Active f h = active_none c false f h
else_is c Halt f h = rw (same_ne f wupa h)
else_is c (ReadyStar l) f h = at_none c true l f h
else_is c ActiveStar f h = active_none c true f h
else_is c (Protocol i) f h = refl

-- T-03: in Ready and Active "else" leads home
pub ready_else : (c : Card) (w : Bool) (l : Level) (f : List ℕ) → Unready c l f → rules c (ready_in w l) f ≡ (home w, [])
ready_else c false l f h = else_is c (Ready l) f h
ready_else c true l f h = else_is c (ReadyStar l) f h

pub active_else : (c : Card) (w : Bool) (f : List ℕ) → Unactive f → rules c (active_in w) f ≡ (home w, [])
active_else c false f h = else_is c Active f h
active_else c true f h = else_is c ActiveStar f h

-- a frame that is not short
pub idle_else : (c : Card) (f : List ℕ) → length f ≢ 7 → rules c Idle f ≡ (Idle, [])
idle_else c f h = else_is c Idle f (λ e. h (ap length e ∙ length_reqa), λ e. h (ap length e ∙ length_wupa))

pub halt_else : (c : Card) (f : List ℕ) → length f ≢ 7 → rules c Halt f ≡ (Halt, [])
halt_else c f h = else_is c Halt f (λ e. h (ap length e ∙ length_wupa))

pub home_else : (c : Card) (w : Bool) (f : List ℕ) → length f ≢ 7 → rules c (home w) f ≡ (home w, [])
home_else c false f h = idle_else c f h
home_else c true f h = halt_else c f h
