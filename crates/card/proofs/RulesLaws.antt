-- The rules of Idle, Halt, Active and Active* by what the tests of a frame told. Assumes nothing.
use Rattle.std.specs.Prelude.{◌≡◌, refl, ℕ, Bool, true, false, cond, ◌&&◌, ◌||◌, List, []}
use Rattle.rows.specs.Rows.{same}
use Rattle.selection.specs.Selection.{reqa, wupa, hlta, atqa, rats, ats, at_most8}
use Rattle.card.specs.Card.{Step, fsdi, home, ready_in, active_in, ready_at, active, rules}
use Rattle.uid.specs.declared.Level.{Level}
use Rattle.uid.specs.declared.Level.TheVariants.{One}
use Rattle.card.specs.declared.Card.{Card}
use Rattle.card.specs.declared.CardState.TheVariants.{Idle, Ready, Halt, ReadyStar, Protocol}

-- one rule for a card that was woken and for one that was not
pub rules_ready : (c : Card) (w : Bool) (l : Level) (f : List ℕ) → rules c (ready_in w l) f ≡ ready_at c w l f
unfolding rules
rules_ready c false l f = refl
rules_ready c true l f = refl

pub rules_active : (c : Card) (w : Bool) (f : List ℕ) → rules c (active_in w) f ≡ active c w f
unfolding rules
rules_active c false f = refl
rules_active c true f = refl

module _ (c : Card) (f : List ℕ) where
  pub idle_step : (a b : Bool) → same f reqa ≡ a → same f wupa ≡ b → ◌≡◌ {A = Step} (cond (a || b) (Ready One, atqa c.uid.size) (Idle, [])) (rules c Idle f)
  unfolding rules
  idle_step a b p q = rw (p, q)

  pub halt_step : (a : Bool) → same f wupa ≡ a → ◌≡◌ {A = Step} (cond a (ReadyStar One, atqa c.uid.size) (Halt, [])) (rules c Halt f)
  unfolding rules
  halt_step a p = rw p

  pub active_step : (w a b d : Bool) → same f hlta ≡ a → c.blocks ≡ b → same f (rats (fsdi f)) ≡ d
      → ◌≡◌ {A = Step} (cond a (Halt, []) (cond (b && d) (Protocol (at_most8 (fsdi f)), ats (at_most8 c.index)) (home w, []))) (rules c (active_in w) f)
  active_step w a b d p q r = rw (rules_active c w f, p, q, r)
