-- What the terms of a sweep, `within`, say of a field. Assumes nothing.
use mathlib.Core.Path.{◌≡◌, refl, sym, ◌∙◌}
use mathlib.Core.Logic.{◌≢◌}
use Prim.Native.Nat.{◌≤◌}
use mathlib.Core.Bool.{Bool, true, false, cond, not, ◌&&◌, ◌||◌, true≢false}
use mathlib.Core.List.{List, [], ◌∷◌, map}
use lib.ListN.{length}
use lib.Dec.{leb}
use borrow.Author.Tests.{leb-true, not-true}
use Rattle.sweep_rules.proofs.Abstract
use Rattle.rows.specs.EachLaws.{all_map}
use Rattle.rows.specs.ListLaws.{both, same_eq}
use Rattle.rows.specs.Rows.{All, any, same}
use Rattle.uid.specs.Uid.{valid, uid_bytes}
use Rattle.sweep_rules.specs.Demand.{Typed}
use Rattle.limits.specs.Limits.{most_cards}
use Rattle.sweep_rules.specs.Terms.{is_idle, is_halt, card_fits, all_fit, apart, within}
use Rattle.sweep_rules.proofs.Idle.{Fits, idlers, all_idle}
use Rattle.uid.specs.declared.Uid.{Uid}
use Rattle.card.specs.declared.Card.{Card}

fits_card : (c : Card) → Typed c → card_fits c ≡ true → Fits c
unfolding card_fits
fits_card c t e =
    let b : ((valid c.uid && leb c.index 8) ≡ true) × ((is_idle c.state || is_halt c.state) ≡ true) =
    both (valid c.uid && leb c.index 8) (is_idle c.state || is_halt c.state) e in
    record { sound = record { ten = t.ten; bytes = t.bytes; is_valid = (both (valid c.uid) (leb c.index 8) b.0).0 }; rests = b.1 }

fits_all : (cs : List Card) → All Typed cs → all_fit cs ≡ true → All Fits cs
unfolding all_fit
fits_all [] t e = tt
fits_all (c ∷ cs) t e =
    let b : (card_fits c ≡ true) × (all_fit cs ≡ true) = both (card_fits c) (all_fit cs) e in
    (fits_card c t.0 b.0, fits_all cs t.1 b.1)

-- no UID is there twice
abbrev pub Differ : List Uid → Type 0
Differ [] = Unit {0}
Differ (u ∷ us) = All (λ v. uid_bytes u ≢ uid_bytes v) us × Differ us

-- the UIDs of cards
abbrev pub uids : List Card → List Uid
uids cs = map (λ c. c.uid) cs

none_same : (c : Card) (cs : List Card) → any (λ k. same (uid_bytes c.uid) (uid_bytes k.uid)) cs ≡ false → All (λ k. uid_bytes c.uid ≢ uid_bytes k.uid) cs
unfolding any
none_same c [] e = tt
none_same c (k ∷ cs) e = go (same (uid_bytes c.uid) (uid_bytes k.uid)) refl e (none_same c cs)
  where
    go : (b : Bool) → same (uid_bytes c.uid) (uid_bytes k.uid) ≡ b → (b || any (λ k. same (uid_bytes c.uid) (uid_bytes k.uid)) cs) ≡ false
        → (any (λ k. same (uid_bytes c.uid) (uid_bytes k.uid)) cs ≡ false → All (λ k. uid_bytes c.uid ≢ uid_bytes k.uid) cs)
        → (uid_bytes c.uid ≢ uid_bytes k.uid) × All (λ k. uid_bytes c.uid ≢ uid_bytes k.uid) cs
    go true s e ih = absurd (true≢false e)
    go false s e ih = (λ q. true≢false (sym (same_eq (uid_bytes c.uid) (uid_bytes k.uid) q) ∙ s), ih e)

differ_idle : (cs : List Card) → apart cs ≡ true → Differ (uids (idlers cs))
unfolding apart idlers
differ_idle [] e = tt
differ_idle (c ∷ cs) e =
    let t : Bool = any (λ k. same (uid_bytes c.uid) (uid_bytes k.uid)) cs in
    let b : (not t ≡ true) × (apart cs ≡ true) = both (not t) (apart cs) e in
    go (is_idle c.state) (none_same c cs (not-true t b.0)) (differ_idle cs b.1)
  where
    go : (b : Bool) → All (λ k. uid_bytes c.uid ≢ uid_bytes k.uid) cs → Differ (uids (idlers cs)) → Differ (uids (cond b (c ∷ idlers cs) (idlers cs)))
    go true n i = (all_map {F = λ k. uid_bytes c.uid ≢ uid_bytes k.uid} (λ v. uid_bytes c.uid ≢ uid_bytes v) (λ k. k.uid) (idlers cs) (λ k h. h) (all_idle (λ k. uid_bytes c.uid ≢ uid_bytes k.uid) cs n), i)
    go false n i = i

pub record Within (cs : List Card) : Type 0 where
  pub fits : All Fits cs
  pub few : length cs ≤ most_cards
  pub differ : Differ (uids (idlers cs))

pub within_says : (cs : List Card) → All Typed cs → within cs ≡ true → Within cs
unfolding within
within_says cs t w =
    let b : ((leb (length cs) most_cards && all_fit cs) ≡ true) × (apart cs ≡ true) = both (leb (length cs) most_cards && all_fit cs) (apart cs) w in
    let c : (leb (length cs) most_cards ≡ true) × (all_fit cs ≡ true) = both (leb (length cs) most_cards) (all_fit cs) b.0 in
    record { fits = fits_all cs t c.1; few = leb-true (length cs) most_cards c.0; differ = differ_idle cs b.1 }
