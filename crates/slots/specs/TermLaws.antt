-- Laws of the loops that test a field. Assumes nothing.
use Rattle.std.specs.Prelude.{◌≡◌, refl, ℕ, ◌+◌, ◌-◌, ◌≤◌, ◌<◌, Bool, true, false, not, List, [], ◌∷◌, length, take, drop, get_or}
use Rattle.std.proofs.Common.{add-one, arith, length-drop, take_all, drop_of_length-le, drop-cons, take-suc, Fits}
use Rattle.std.specs.List.{list_any}
use Rattle.std.specs.Int.{w8}
use Rattle.rows.specs.ListLaws.{all_append, bytes_at_law}
use Rattle.rows.specs.Rows.{All, any, same}
use Rattle.slots_rules.specs.Claim.{Typed}
use Rattle.slots_rules.specs.TermsB.{card_fits, all_fit, apart}
use Rattle.field_b.specs.declared.Drawn.{Drawn}

-- what a card's type says of its bytes
pub typed_card : (d : Drawn) → length d.card.pupi ≡ 4 → ((i : ℕ) → Fits w8 (get_or d.card.pupi i 0))
    → length d.card.application ≡ 4 → ((i : ℕ) → Fits w8 (get_or d.card.application i 0))
    → length d.card.protocol ≡ 3 → ((i : ℕ) → Fits w8 (get_or d.card.protocol i 0)) → Typed d
typed_card d a b e f g h =
    record {
      four = a;
      pupi_bytes = bytes_at_law d.card.pupi b;
      application_four = e;
      application_bytes = bytes_at_law d.card.application f;
      three = g;
      protocol_bytes = bytes_at_law d.card.protocol h;
    }

-- one card more has its type
pub all_next : (l : List Drawn) (i : ℕ) (d : Drawn) → i < length l → All Typed (take i l) → Typed (get_or l i d) → All Typed (take (i + 1) l)
all_next l i d h a f = rw (add-one, take-suc l i d h) (all_append Typed (take i l) (get_or l i d ∷ []) a (f, tt))

-- ---- the cards from i on

-- the test of the definition is the library's
pub any_is : (f : Drawn → Bool) (l : List Drawn) → any f l ≡ list_any f l
unfolding any
any_is f [] = refl
any_is f (d ∷ l) = rw (any_is f l)

-- the rest of a row of cards, lent on
pub rest_is : (l : List Drawn) (i : ℕ) → take (length l - i) (drop i l) ≡ drop i l
rest_is l i = take_all (length l - i) (drop i l) (rw length-drop (omega arith))

module _ (l : List Drawn) (i : ℕ) (d : Drawn) (h : i < length l) where
  one_more : drop i l ≡ get_or l i d ∷ drop (i + 1) l
  one_more = rw (drop-cons l i d h, add-one)

  pub fit_next : (n : ℕ) → card_fits n (get_or l i d) ≡ true → all_fit n (drop i l) ≡ all_fit n (drop (i + 1) l)
  unfolding all_fit
  fit_next n e = rw (one_more, e)

  pub fit_not : (n : ℕ) → card_fits n (get_or l i d) ≡ false → all_fit n (drop i l) ≡ false
  unfolding all_fit
  fit_not n e = rw (one_more, e)

  pub apart_next : not (any (λ k. same (get_or l i d).card.pupi k.card.pupi) (drop (i + 1) l)) ≡ true → apart (drop i l) ≡ apart (drop (i + 1) l)
  unfolding apart
  apart_next e = rw (one_more, e)

  pub apart_not : not (any (λ k. same (get_or l i d).card.pupi k.card.pupi) (drop (i + 1) l)) ≡ false → apart (drop i l) ≡ false
  unfolding apart
  apart_not e = rw (one_more, e)

module _ (l : List Drawn) (i : ℕ) (h : length l ≤ i) where
  pub fit_done : (n : ℕ) → all_fit n (drop i l) ≡ true
  unfolding all_fit
  fit_done n = rw (drop_of_length-le l {i = i} h)

  pub apart_done : apart (drop i l) ≡ true
  unfolding apart
  apart_done = rw (drop_of_length-le l {i = i} h)
