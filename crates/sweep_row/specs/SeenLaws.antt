-- Laws of the first pass over a row: its cards are seen one by one, the last first. Assumes nothing.
use Rattle.std.specs.Prelude.{◌≡◌, refl, ℕ, zero, suc, ◌+◌, ◌≤◌, ◌<◌, Bool, true, false, not, ◌&&◌, ◌||◌, List, [], ◌∷◌, map, length, take, drop, get_or, set}
use Rattle.std.proofs.Common.{ap, ◌∙◌, not-suc-le-zero, add-one, arith, drop_of_length-le}
use Rattle.std.proofs.Math.ListN.{length-take, length-set}
use Rattle.std.proofs.Math.Seq.{drop-cons}
use Rattle.rows.specs.ListLaws.{both}
use Rattle.rows.specs.Rows.{All, any, same}
use Rattle.uid.specs.Uid.{uid_bytes}
use Rattle.limits.specs.Limits.{most_cards}
use Rattle.sweep_rules.specs.Demand.{Typed}
use Rattle.sweep_rules.specs.Terms.{card_fits, all_fit, apart, within}
use Rattle.card.specs.declared.Card.{Card}
use Rattle.sweep_row.specs.declared.seen.Seen.{Seen}
use Rattle.sweep_row.specs.Row.{no_card, none_seen, seen_with}

-- ---- a field of one card
pub alone_fits : (c : Card) → within (c ∷ []) ≡ card_fits c
unfolding within all_fit apart any
alone_fits c = go (card_fits c) refl
  where
    go : (b : Bool) → card_fits c ≡ b → within (c ∷ []) ≡ b
    go true e = rw e
    go false e = rw e

pub alone_typed : (c : Card) → All Typed (c ∷ []) → Typed c
alone_typed c h = h.0

-- ---- one card more
seen_uids : {A : Type 0} (i n : ℕ) (l : List A) (x : A) → i < n → i < length l → drop i (take n (set l i x)) ≡ x ∷ drop (suc i) (take n l)
seen_uids i zero l x h k = absurd (not-suc-le-zero h)
seen_uids i (suc n) [] x h k = absurd (not-suc-le-zero k)
seen_uids zero (suc n) (y ∷ l) x h k = refl
seen_uids (suc i) (suc n) (y ∷ l) x h k = seen_uids i n l x (omega arith) (omega arith)

any_map : {A B : Type 0} (t : B → Bool) (f : A → B) (l : List A) → any t (map f l) ≡ any (λ x. t (f x)) l
unfolding any
any_map t f [] = refl
any_map t f (x ∷ l) = ap (λ b. t (f x) || b) (any_map t f l)

-- the tests of a card and of those behind it, in either order
shuffle : (f p c n : Bool) → ((f && p) && c && n) ≡ ((c && f) && (n && p))
shuffle false p true n = refl
shuffle false p false n = refl
shuffle true false false n = refl
shuffle true false true true = refl
shuffle true false true false = refl
shuffle true true false n = refl
shuffle true true true true = refl
shuffle true true true false = refl

-- the cards from a place on are such a field, and their UIDs are kept
pub record SeenFrom (cards : List Card) (i : ℕ) (s : Seen) : Type 0 where
  pub full : length s.uids ≡ most_cards
  pub uids : drop i (take (length cards) s.uids) ≡ map (λ k. k.uid) (drop i cards)
  pub fits : s.fits ≡ (all_fit (drop i cards) && apart (drop i cards))
  pub typed : s.fits ≡ true → All Typed (drop i cards)

pub seen_none : (cards : List Card) → length cards ≤ most_cards → SeenFrom cards (length cards) none_seen
unfolding all_fit apart
seen_none cards few =
    let e : drop (length cards) cards ≡ [] = drop_of_length-le cards {i = length cards} (omega arith) in
    let k : drop (length cards) (take (length cards) none_seen.uids) ≡ [] = drop_of_length-le (take (length cards) none_seen.uids) {i = length cards} (rw length-take (omega arith)) in
    record { full = refl; uids = k ∙ rw e; fits = rw e; typed = λ f. rw e tt }

module _ (cards : List Card) (few : length cards ≤ most_cards) (at : ℕ) (h : at < length cards) (s : Seen) (v : SeenFrom cards (suc at) s) where
  abbrev here : Card
  here = get_or cards at no_card

  rest : List Card
  rest = drop (suc at) cards

  next : drop at cards ≡ here ∷ rest
  unfolding rest
  next = drop-cons cards at no_card h

  alone : any (λ u. same (uid_bytes here.uid) (uid_bytes u)) (drop (at + 1) (take (length cards) s.uids)) ≡ any (λ k. same (uid_bytes here.uid) (uid_bytes k.uid)) rest
  unfolding rest
  alone = rw (add-one at, v.uids) (any_map (λ u. same (uid_bytes here.uid) (uid_bytes u)) (λ k. k.uid) rest)

  fits_here : (seen_with s at (length cards) here).fits ≡ (all_fit (drop at cards) && apart (drop at cards))
  unfolding seen_with all_fit apart rest
  fits_here = rw (next, alone, v.fits) (shuffle (all_fit rest) (apart rest) (card_fits here) (not (any (λ k. same (uid_bytes here.uid) (uid_bytes k.uid)) rest)))

  pub seen_next : ((seen_with s at (length cards) here).fits ≡ true → Typed here) → SeenFrom cards at (seen_with s at (length cards) here)
  unfolding seen_with rest
  seen_next t =
      record {
        full = length-set s.uids at here.uid ∙ v.full;
        uids = seen_uids at (length cards) s.uids here.uid h (omega (arith, v.full)) ∙ rw (v.uids, next);
        fits = fits_here;
        typed = λ f. rw next (t f, v.typed (both s.fits (card_fits here) (both (s.fits && card_fits here) _ f).0).0);
      }

-- a card that is only looked at stays
pub set_own : {A : Type 0} (l : List A) (i : ℕ) (d : A) → set l i (get_or l i d) ≡ l
set_own [] i d = refl
set_own (x ∷ l) zero d = refl
set_own (x ∷ l) (suc i) d = ap (λ r. x ∷ r) (set_own l i d)
