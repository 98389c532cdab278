-- The found list holds each idle card's UID once, and no other. Assumes nothing.
use mathlib.Core.Path.{◌≡◌, refl, sym, ap, ◌∙◌}
use mathlib.Core.Logic.{◌≢◌}
use Prim.Native.Nat.{ℕ}
use mathlib.Core.Bool.{Bool, true, false, cond, ◌&&◌, ◌||◌}
use mathlib.Core.List.{List, [], ◌∷◌, map}
use Rattle.rows.specs.EachLaws.{all_map}
use Rattle.rows.specs.Rows.{All, any, same}
use Rattle.uid.specs.Order.{above, insert_on, sort_on}
use Rattle.uid.specs.SortLaws.{all_insert, all_sort}
use Rattle.uid.specs.Uid.{uid_bytes, row_of, falling}
use Rattle.sweep_rules.specs.Demand.{idle, is_idle_with, Distinct}
use Rattle.sweep_rules.specs.Terms.{is_idle}
use Rattle.sweep_rules.proofs.Sort.{any_sort}
use Rattle.sweep_rules.proofs.Within.{Differ}
use Rattle.uid.specs.declared.Uid.{Uid}
use Rattle.card.specs.declared.Card.{Card}

-- ---- each once

differ_insert : (key : Uid → List ℕ) (u : Uid) (us : List Uid) → All (λ v. uid_bytes u ≢ uid_bytes v) us → Differ us → Differ (insert_on key u us)
unfolding insert_on
differ_insert key u [] h d = (tt, tt)
differ_insert key u (v ∷ us) h d = go (above (key u) (key v)) (differ_insert key u us h.1 d.1)
  where
    go : (b : Bool) → Differ (insert_on key u us) → Differ (cond b (u ∷ v ∷ us) (v ∷ insert_on key u us))
    go true i = (h, d)
    go false i = (all_insert key (λ w. uid_bytes v ≢ uid_bytes w) u us (λ e. h.0 (sym e)) d.0, i)

differ_sort : (key : Uid → List ℕ) (us : List Uid) → Differ us → Differ (sort_on key us)
unfolding sort_on
differ_sort key [] d = tt
differ_sort key (u ∷ us) d = differ_insert key u (sort_on key us) (all_sort key (λ v. uid_bytes u ≢ uid_bytes v) us d.0) (differ_sort key us d.1)

distinct : (us : List Uid) → Differ us → Distinct (map uid_bytes us)
distinct [] d = tt
distinct (u ∷ us) d = (all_map {F = λ v. uid_bytes u ≢ uid_bytes v} (λ w. uid_bytes u ≢ w) uid_bytes us (λ v h. h) d.0, distinct us d.1)

pub once_each : (us : List Uid) → Differ us → Distinct (map uid_bytes (falling us))
unfolding falling
once_each us d = distinct (sort_on row_of us) (differ_sort row_of us d)

-- ---- exactly those of the idle cards

any_map : {A B : Type 0} (f : B → Bool) (g : A → B) (l : List A) → any f (map g l) ≡ any (λ a. f (g a)) l
unfolding any
any_map f g [] = refl
any_map f g (a ∷ l) = ap (◌||◌ (f (g a))) (any_map f g l)

any_idle : (u : List ℕ) (cs : List Card) → any (λ v. same u (uid_bytes v)) (idle cs) ≡ any (is_idle_with u) cs
unfolding any idle is_idle_with
any_idle u [] = refl
any_idle u (c ∷ cs) = go (is_idle c.state) (any_idle u cs)
  where
    go : (b : Bool) → any (λ v. same u (uid_bytes v)) (idle cs) ≡ any (is_idle_with u) cs
        → any (λ v. same u (uid_bytes v)) (cond b (c.uid ∷ idle cs) (idle cs)) ≡ (b && same u (uid_bytes c.uid) || any (is_idle_with u) cs)
    go true ih = ap (◌||◌ (same u (uid_bytes c.uid))) ih
    go false ih = ih

pub listed_exactly : (u : List ℕ) (cs : List Card) → any (same u) (map uid_bytes (falling (idle cs))) ≡ any (is_idle_with u) cs
unfolding falling
listed_exactly u cs = any_map (same u) uid_bytes (sort_on row_of (idle cs)) ∙ any_sort row_of (λ v. same u (uid_bytes v)) (idle cs) ∙ any_idle u cs
