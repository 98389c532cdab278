-- The cards that a check lists are a field that a sweep takes, all of them idle. Assumes nothing.
use Rattle.std.specs.Prelude.{◌≡◌, refl, ℕ, zero, suc, ◌+◌, ◌≤◌, ◌<◌, Bool, true, false, cond, not, ◌&&◌, ◌||◌, List, [], ◌∷◌, ◌++◌, length, leb, ltb, Result, Ok, Err}
use Rattle.std.proofs.Common.{sym, ◌∙◌, add-one, arith, length-set, take-suc-set, length-take-le, le-leb, leb-false}
use Rattle.std.proofs.lemmas.Bool.{false≢true}
use Rattle.rows.specs.ListLaws.{both, all_append, same_sound, same_refl}
use Rattle.rows.specs.Rows.{All, any, same}
use Rattle.limits.specs.Limits.{most_cards}
use Rattle.uid.specs.Uid.{uid_bytes, valid}
use Rattle.reader.specs.Calls.{Completed}
use Rattle.reader.specs.Reader.{frame, hear}
use Rattle.reader.specs.SakLevelLaws.{completed_valid}
use Rattle.air_log.specs.Reading.{record_at}
use Rattle.sweep_rules.specs.Terms.{is_idle, card_fits, all_fit, apart, within}
use Rattle.card.specs.declared.Card.{Card}
use Rattle.air_log.specs.declared.Record.{Record}
use Rattle.reader.specs.declared.Answer.{Answer}
use Rattle.reader.specs.declared.Answer.TheVariants.{Sends, Finds, Selects, Finishes, Declines}
use Rattle.reader.specs.declared.Reader.{Reader}
use Rattle.refusal.specs.declared.Refusal.TheVariants.{Argument, NotDue}
use Rattle.trace_rules.specs.Trace.{heard_row, sent_passed, heard_passed, goes, content, faults, onward, listed, with_card, cards_in, is_listed, lists, ends, answered, turned, heard_then, sent_then, step, start, follow, walk}
use Rattle.trace_rules.specs.Check.{cards_of}
use Rattle.trace_rules.proofs.SweptLaws.{Sweeping, Stays, hear_stays, begin_sweeping}
use Rattle.trace_rules.specs.declared.Checked.{Checked}
use Rattle.trace_rules.specs.declared.Place.{Place}
use Rattle.trace_rules.specs.declared.Says.{Says}
use Rattle.trace_rules.specs.declared.Says.TheVariants.{Goes, Content, Faults}
use Rattle.trace_rules.specs.declared.Stepped.{Stepped}
use Rattle.refusal.specs.declared.Refusal.{Refusal}

-- ---- one card more

fit_more : (cs : List Card) (c : Card) → all_fit cs ≡ true → card_fits c ≡ true → all_fit (cs ++ c ∷ []) ≡ true
unfolding all_fit
fit_more [] c h k = rw k
fit_more (d ∷ cs) c h k = let p = both (card_fits d) (all_fit cs) h in rw p.0 (fit_more cs c p.1 k)

any_more : (t : Card → Bool) (cs : List Card) (c : Card) → any t (cs ++ c ∷ []) ≡ (any t cs || t c)
unfolding any
any_more t [] c = go (t c)
  where
    go : (b : Bool) → (b || false) ≡ b
    go true = refl
    go false = refl
any_more t (d ∷ cs) c = go (t d) (any_more t cs c)
  where
    go : (b : Bool) → any t (cs ++ c ∷ []) ≡ (any t cs || t c) → (b || any t (cs ++ c ∷ [])) ≡ (b || any t cs || t c)
    go true e = refl
    go false e = e

same_back : (r s : List ℕ) → same r s ≡ false → same s r ≡ false
same_back r s h = go (same s r) refl
  where
    go : (b : Bool) → same s r ≡ b → b ≡ false
    go true e = absurd (false≢true (sym h ∙ rw (same_sound s r e) (same_refl r)))
    go false e = refl

abbrev twin : Card → Card → Bool
twin c k = same (uid_bytes c.uid) (uid_bytes k.uid)

apart_more : (cs : List Card) (c : Card) → apart cs ≡ true → any (twin c) cs ≡ false → apart (cs ++ c ∷ []) ≡ true
unfolding apart any
apart_more [] c h k = refl
apart_more (d ∷ cs) c h k = go (any (twin d) cs) (apart cs) (twin c d) (any (twin c) cs) refl refl refl refl h k (apart_more cs c)
  where
    go : (a b x y : Bool) → any (twin d) cs ≡ a → apart cs ≡ b → twin c d ≡ x → any (twin c) cs ≡ y → (not a && b) ≡ true → (x || y) ≡ false → (apart cs ≡ true → any (twin c) cs ≡ false → apart (cs ++ c ∷ []) ≡ true)
        → (not (any (twin d) (cs ++ c ∷ [])) && apart (cs ++ c ∷ [])) ≡ true
    go true b x y p q u v h k ih = absurd (false≢true h)
    go false false x y p q u v h k ih = absurd (false≢true h)
    go false true true y p q u v h k ih = absurd (false≢true (sym k))
    go false true false true p q u v h k ih = absurd (false≢true (sym k))
    go false true false false p q u v h k ih = rw (any_more (twin d) cs c, p, same_back (uid_bytes c.uid) (uid_bytes d.uid) u) (ih q v)

-- ---- the cards found so far

pub record Listing (p : Place) : Type 0 where
  pub full : length p.cards ≡ most_cards
  pub few : p.found ≤ most_cards
  pub fit : all_fit (cards_in p) ≡ true
  pub differ : apart (cards_in p) ≡ true
  pub idle : All (λ d. is_idle d.state ≡ true) (cards_in p)

listed_fits : (r : Reader) → valid r.uid ≡ true → card_fits (listed r) ≡ true
unfolding card_fits
listed_fits r v = rw v

pub cards_more : (p : Place) (at : ℕ) (r : Reader) → p.found < length p.cards → cards_in (with_card p at r) ≡ cards_in p ++ listed r ∷ []
cards_more p at r h = rw add-one (take-suc-set p.cards p.found (listed r) h)

one_more : (p : Place) (at : ℕ) (r : Reader) → Listing p → valid r.uid ≡ true → p.found < most_cards → is_listed r.uid (cards_in p) ≡ false → Listing (with_card p at r)
unfolding is_listed
one_more p at r q v h k =
    let e : cards_in (with_card p at r) ≡ cards_in p ++ listed r ∷ [] = cards_more p at r (omega (arith, q.full)) in
    record {
      full = length-set p.cards p.found (listed r) ∙ q.full;
      few = omega arith;
      fit = rw e (fit_more (cards_in p) (listed r) q.fit (listed_fits r v));
      differ = rw e (apart_more (cards_in p) (listed r) q.differ k);
      idle = rw e (all_append (λ d. is_idle d.state ≡ true) (cards_in p) (listed r ∷ []) q.idle (refl, tt));
    }

-- ---- turns

-- what a turn leaves
abbrev Leaves : Place → Says → Type 0
Leaves p Goes = Sweeping p.reader × Listing p
Leaves p Content = Listing p
Leaves p (Faults on e) = Unit {0}

abbrev Left : Stepped → Type 0
Left s = Leaves s.place s.says

left_lists : (p : Place) (at : ℕ) (r : Reader) → Listing p → Sweeping r → valid r.uid ≡ true → Left (lists p at r)
unfolding lists
left_lists p at r q s v = go (leb most_cards p.found) (is_listed r.uid (cards_in p)) refl refl
  where
    go : (a b : Bool) → leb most_cards p.found ≡ a → is_listed r.uid (cards_in p) ≡ b → Left (cond (a || b) (faults p 1 Argument) (goes (with_card p at r)))
    go true b e f = tt
    go false true e f = tt
    go false false e f = (s, one_more p at r q v (leb-false most_cards p.found e) f)

moved : (p : Place) (at : ℕ) (r : Reader) → Listing p → Listing (onward p at r)
moved p at r q = record { full = q.full; few = q.few; fit = q.fit; differ = q.differ; idle = q.idle }

left_ends : (l : List ℕ) (p : Place) (at : ℕ) (r : Reader) → Listing p → Left (ends l p at r)
unfolding ends
left_ends l p at r q = go (ltb at (length l))
  where
    go : (b : Bool) → Left (cond b (faults p 2 NotDue) (content (onward p at r)))
    go true = tt
    go false = moved p at r q

left_answered : (l : List ℕ) (p : Place) (at : ℕ) (r : Reader) (a : Answer) → Listing p → Stays (record { reader = r; answer = a }) → Completed a r → Left (answered l p at r a)
left_answered l p at r (Sends n) q s v = (s, moved p at r q)
left_answered l p at r (Finds n) q s v = left_lists p at r q s v
left_answered l p at r Selects q s v = tt
left_answered l p at r Finishes q s v = left_ends l p at r q
left_answered l p at r (Declines e) q s v = tt

left_heard : (l : List ℕ) (p : Place) (x : Record) (k : Result ℕ Refusal) → Sweeping p.reader → Listing p → Left (heard_then l p x k)
unfolding turned
left_heard l p x (Ok at) s q =
    let t = hear p.reader (heard_row l x) in
    left_answered l p at t.reader t.answer q (hear_stays p.reader s (heard_row l x)) (completed_valid p.reader s.five s.ten (heard_row l x))
left_heard l p x (Err e) s q = tt

left_sent : (w : ℕ) (l : List ℕ) (p : Place) (k : Result ℕ Refusal) → Sweeping p.reader → Listing p → Left (sent_then w l p k)
left_sent w l p (Ok at) s q = left_heard l p (record_at w l at) (heard_passed (record_at w l at)) s q
left_sent w l p (Err e) s q = tt

left_step : (w : ℕ) (l : List ℕ) (p : Place) → Sweeping p.reader → Listing p → Left (step w l p)
unfolding step
left_step w l p s q = left_sent w l p (sent_passed l (frame p.reader) (record_at w l p.at)) s q

-- ---- the whole check

pub record Field (c : Checked) : Type 0 where
  pub field : within (cards_of c) ≡ true
  pub idle : All (λ d. is_idle d.state ≡ true) (cards_of c)

listing_field : (p : Place) (c : Checked) → c.cards ≡ p.cards → c.found ≡ p.found → Listing p → Field c
unfolding within
listing_field p c e f q =
    let k : length (cards_in p) ≡ p.found = length-take-le p.found p.cards (omega (arith, q.full, q.few)) in
    rw (e, f) (record { field = rw (k, le-leb p.found most_cards q.few, q.fit, q.differ); idle = q.idle })

pub walk_field : (k w : ℕ) (l : List ℕ) (i : ℕ) (p : Place) → Sweeping p.reader → Listing p → (walk k w l i p).verdict ≡ Ok tt → Field (walk k w l i p)
unfolding walk
walk_field zero w l i p s q h = let z : ◌≡◌ {A = ℕ} 0 1 = cc in absurd (omega arith)
walk_field (suc k) w l i p s q h = go (step w l p).says (left_step w l p s q) h (λ a b. walk_field k w l (i + 2) (step w l p).place a b)
  where
    x : Place
    x = (step w l p).place

    rest : Checked
    rest = walk k w l (i + 2) x

    go : (y : Says) → Leaves x y → (follow i x rest y).verdict ≡ Ok tt → (Sweeping x.reader → Listing x → rest.verdict ≡ Ok tt → Field rest) → Field (follow i x rest y)
    go Goes v h more = more v.0 v.1 h
    go Content v h more = listing_field x _ refl refl v
    go (Faults on e) v h more = let z : ◌≡◌ {A = ℕ} 0 1 = cc in absurd (omega arith)

pub start_listing : Listing start
unfolding start all_fit apart
start_listing = record { full = refl; few = omega arith; fit = refl; differ = refl; idle = tt }

pub start_sweeping : Sweeping start.reader
unfolding start
start_sweeping = begin_sweeping
