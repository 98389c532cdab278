-- Laws of the tests of a field. Assumes nothing.
use Rattle.std.specs.Prelude.{◌≡◌, refl, ℕ, suc, ◌≤◌, ◌<◌, Bool, true, false, not, ◌&&◌, ◌||◌, List, [], ◌∷◌, length, get_or}
use Rattle.std.specs.List.{list_all, list_any, AllWithin}
use Rattle.std.proofs.Common.{ap, arith, Fits}
use borrow.Author.Tests.{le-leb, lt-leb}
use Rattle.std.specs.Int.{w8}
use Rattle.rows.specs.Rows.{All, any, same}
use Rattle.rows.specs.ListLaws.{bytes_at_law}
use Rattle.uid.specs.Uid.{uid_bytes}
use Rattle.limits.specs.Limits.{most_cards}
use Rattle.sweep_rules.specs.Terms.{card_fits, all_fit, apart, within}
use Rattle.sweep_rules.specs.Demand.{Typed}
use Rattle.card.specs.declared.Card.{Card}

-- what a card's type says of its UID's bytes
pub typed_card : (c : Card) → length c.uid.bytes ≡ 10 → ((i : ℕ) → Fits w8 (get_or c.uid.bytes i 0)) → Typed c
typed_card c l h = record { ten = l; bytes = bytes_at_law c.uid.bytes h }

-- a card more
module _ (c : Card) (cs : List Card) where
  pub apart_next : not (any (λ k. same (uid_bytes c.uid) (uid_bytes k.uid)) cs) ≡ true → apart (c ∷ cs) ≡ apart cs
  unfolding apart
  apart_next e = rw e

  pub apart_not : not (any (λ k. same (uid_bytes c.uid) (uid_bytes k.uid)) cs) ≡ false → apart (c ∷ cs) ≡ false
  unfolding apart
  apart_not e = rw e

pub apart_none : (cs : List Card) → length cs ≡ 0 → apart cs ≡ true
unfolding apart
apart_none [] e = refl
apart_none (c ∷ cs) e = absurd (omega (arith, e))

-- by the library's words
pub all_fit_is : (cs : List Card) → list_all card_fits cs ≡ all_fit cs
unfolding all_fit
all_fit_is [] = refl
all_fit_is (c ∷ cs) = ap (λ b. card_fits c && b) (all_fit_is cs)

pub any_is : {A : Type 0} (t : A → Bool) (l : List A) → list_any t l ≡ any t l
unfolding any
any_is t [] = refl
any_is t (x ∷ l) = ap (λ b. t x || b) (any_is t l)

pub typed : (cs : List Card) → AllWithin Typed cs 0 (length cs) → All Typed cs
typed [] h = tt
typed (c ∷ cs) h = (h 0 c (omega arith) (omega arith), typed cs (λ k d a b. h (suc k) d (omega arith) (omega arith)))

-- all tests together
pub within_small : (cs : List Card) → length cs ≤ most_cards → within cs ≡ (all_fit cs && apart cs)
unfolding within
within_small cs h = rw (le-leb (length cs) most_cards h)

pub within_long : (cs : List Card) → most_cards < length cs → within cs ≡ false
unfolding within
within_long cs h = rw (lt-leb (length cs) most_cards h)
