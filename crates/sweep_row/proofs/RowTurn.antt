-- A turn of the loop over a lent row, whichever sweep it is: the card at the place is the row's, and a turn keeps what a pass keeps. Assumes nothing.
use Rattle.std.proofs.Common.{◌≡◌, ◌<◌, ℕ, Bool, true, false, List, [], length, get_or, set, sym, subst}
use Rattle.std.proofs.lemmas.List.{get_or_default}
use Rattle.card.specs.declared.Card.{Card}
use Rattle.card.specs.declared.CardState.TheVariants.{Off}
use Rattle.uid.specs.declared.UidSize.TheVariants.{Single}
use Rattle.sweep.specs.declared.Start.{Start}
use Rattle.sweep_row.specs.declared.within.Progress.{Progress}
use Rattle.sweep_row.specs.declared.within.Turned.{Turned}
use Rattle.sweep_row.specs.Row.{no_card, Ready, Turns}
use Rattle.sweep_row.specs.Under.{Under, measure}
use Rattle.sweep_row.proofs.Turning as law

-- what an index past the row's end would read: within the row it does not matter which card that is
abbrev pub nobody : Card
nobody = record { uid = record { size = Single; bytes = [] }; blocks = false; index = 0; state = Off }

module _ (b : Bool) (start : Start) (cards₀ : List Card) (log₀ list₀ : List ℕ) (p : Progress) (ws : List Card) (log list : List ℕ) (u : Under b start cards₀ log₀ list₀ p ws log list)
    (rows : length ws ≡ length cards₀) (g : p.going ≡ true) where
  here : p.at < length ws
  here = subst (λ n. p.at < n) (sym rows) (law.here b start cards₀ log₀ list₀ p ws log list u g)

  same : get_or ws p.at nobody ≡ get_or ws p.at no_card
  same = get_or_default ws p.at nobody no_card here

  pub ready : Ready b p (get_or ws p.at nobody) log list
  ready = subst (λ c. Ready b p c log list) (sym same) (law.ready b start cards₀ log₀ list₀ p ws log list u g)

  module _ (t : Turned) (log₁ list₁ : List ℕ) (k : Turns b p (get_or ws p.at nobody) log list t log₁ list₁) where
    turns : Turns b p (get_or ws p.at no_card) log list t log₁ list₁
    turns = subst (λ c. Turns b p c log list t log₁ list₁) same k

    pub fewer : measure t.next < measure p
    fewer = law.fewer b start cards₀ log₀ list₀ p ws log list u g t log₁ list₁ turns

    pub after : Under b start cards₀ log₀ list₀ t.next (set ws p.at t.card) log₁ list₁
    after = law.after b start cards₀ log₀ list₀ p ws log list u g t log₁ list₁ turns
