-- Laws of the loop over the records: what is left of the check after a turn. Assumes nothing.
use Rattle.std.specs.Prelude.{◌≡◌, refl, ℕ, zero, suc, ◌+◌, ◌-◌, ◌*◌, ◌≤◌, ◌<◌, Bool, true, false, cond, ◌&&◌, ◌||◌, List, length, leb, ltb, Result, Ok, Err}
use Rattle.std.proofs.Common.{sym, arith, leb-false, ltb-false}
use Rattle.std.proofs.lemmas.Bool.{false≢true}
use Rattle.limits.specs.Limits.{most_cards}
use Rattle.reader.specs.Reader.{frame, hear}
use Rattle.air_log.specs.Reading.{record_at}
use Rattle.trace_rules.specs.Trace.{heard_row, sent_passed, heard_passed, goes, content, faults, onward, with_card, is_listed, cards_in, lists, ends, answered, turned, heard_then, sent_then, step, start, follow, walk}
use Rattle.air_log.specs.declared.Record.{Record}
use Rattle.reader.specs.declared.Answer.{Answer}
use Rattle.reader.specs.declared.Answer.TheVariants.{Sends, Finds, Selects, Finishes, Declines}
use Rattle.reader.specs.declared.Reader.{Reader}
use Rattle.refusal.specs.declared.Refusal.TheVariants.{Argument, NotDue}
use Rattle.trace_rules.specs.declared.Checked.{Checked}
use Rattle.trace_rules.specs.declared.Place.{Place}
use Rattle.trace_rules.specs.declared.Says.{Says}
use Rattle.trace_rules.specs.declared.Says.TheVariants.{Goes, Content, Faults}
use Rattle.trace_rules.specs.declared.Stepped.{Stepped}
use Rattle.trace.specs.Loops.{is_going, goes_on, last_of}
use Rattle.refusal.specs.declared.Refusal.{Refusal}

-- ---- what is left after a turn that says s, i records being before it

abbrev pub left : ℕ → ℕ → List ℕ → ℕ → Stepped → Checked
left k w l i s = follow i s.place (walk k w l (i + 2) s.place) s.says

pub left_first : (k w : ℕ) (l : List ℕ) (i : ℕ) (p : Place) → left k w l i (step w l p) ≡ walk (suc k) w l i p
unfolding walk
left_first k w l i p = refl

going : (x : Says) → is_going x ≡ true → x ≡ Goes
going Goes e = refl
going Content e = absurd (false≢true e)
going (Faults on r) e = absurd (false≢true e)

pub goes_says : (s : Stepped) (turn most : ℕ) → goes_on s turn most ≡ true → (ltb turn most ≡ true) × (s.says ≡ Goes)
unfolding goes_on
goes_says s turn most h = go (ltb turn most) (is_going s.says) refl refl h
  where
    go : (a b : Bool) → ltb turn most ≡ a → is_going s.says ≡ b → (a && b) ≡ true → (ltb turn most ≡ true) × (s.says ≡ Goes)
    go true true p q h = (p, going s.says q)
    go true false p q h = absurd (false≢true h)
    go false b p q h = absurd (false≢true h)

-- a turn of at most as many as the log has bytes
pub left_turn : (w : ℕ) (l : List ℕ) (turn : ℕ) (s : Stepped) → turn < length l → s.says ≡ Goes
    → left (length l - turn) w l (2 * turn) s ≡ left (length l - (turn + 1)) w l (2 * (turn + 1)) (step w l s.place)
unfolding walk
left_turn w l turn s h e =
    let k : length l - turn ≡ suc (length l - (turn + 1)) = omega arith in
    let i : 2 * (turn + 1) ≡ 2 * turn + 2 = omega arith in
    rw (k, i, e)

-- the loop is over: the turns are used up, or the last one ended the check
pub left_done : (w : ℕ) (l : List ℕ) (turn : ℕ) (s : Stepped) → goes_on s turn (length l) ≡ false → left (length l - turn) w l (2 * turn) s ≡ last_of (2 * turn) s
unfolding goes_on walk
left_done w l turn s h = go (ltb turn (length l)) refl s.says h
  where
    p : Place
    p = s.place

    go : (a : Bool) → ltb turn (length l) ≡ a → (x : Says) → (a && is_going x) ≡ false
        → follow (2 * turn) p (walk (length l - turn) w l (2 * turn + 2) p) x ≡ follow (2 * turn) p (walk 0 w l (2 * turn + 2) p) x
    go a e Content h = refl
    go a e (Faults on r) h = refl
    go true e Goes h = absurd (false≢true (sym h))
    go false e Goes h = let z : length l - turn ≡ 0 = omega (arith, ltb-false turn (length l) e) in rw z

-- ---- no more cards than the limit are found

few_lists : (p : Place) (at : ℕ) (r : Reader) → p.found ≤ most_cards → (lists p at r).place.found ≤ most_cards
unfolding lists
few_lists p at r h = go (leb most_cards p.found) (is_listed r.uid (cards_in p)) refl
  where
    go : (a b : Bool) → leb most_cards p.found ≡ a → (cond (a || b) (faults p 1 Argument) (goes (with_card p at r))).place.found ≤ most_cards
    go true b e = h
    go false true e = h
    go false false e = omega (arith, leb-false most_cards p.found e)

few_answered : (l : List ℕ) (p : Place) (at : ℕ) (r : Reader) (a : Answer) → p.found ≤ most_cards → (answered l p at r a).place.found ≤ most_cards
unfolding ends
few_answered l p at r (Sends n) h = h
few_answered l p at r (Finds n) h = few_lists p at r h
few_answered l p at r Selects h = h
few_answered l p at r Finishes h = go (ltb at (length l))
  where
    go : (b : Bool) → (cond b (faults p 2 NotDue) (content (onward p at r))).place.found ≤ most_cards
    go true = h
    go false = h
few_answered l p at r (Declines e) h = h

few_heard : (l : List ℕ) (p : Place) (x : Record) (q : Result ℕ Refusal) → p.found ≤ most_cards → (heard_then l p x q).place.found ≤ most_cards
unfolding turned
few_heard l p x (Ok at) h = few_answered l p at (hear p.reader (heard_row l x)).reader (hear p.reader (heard_row l x)).answer h
few_heard l p x (Err e) h = h

few_sent : (w : ℕ) (l : List ℕ) (p : Place) (q : Result ℕ Refusal) → p.found ≤ most_cards → (sent_then w l p q).place.found ≤ most_cards
few_sent w l p (Ok at) h = few_heard l p (record_at w l at) (heard_passed (record_at w l at)) h
few_sent w l p (Err e) h = h

few_follow : (i : ℕ) (p : Place) (c : Checked) (x : Says) → p.found ≤ most_cards → c.found ≤ most_cards → (follow i p c x).found ≤ most_cards
few_follow i p c Goes h k = k
few_follow i p c Content h k = h
few_follow i p c (Faults on e) h k = h

few_walk : (k w : ℕ) (l : List ℕ) (i : ℕ) (p : Place) → p.found ≤ most_cards → (walk k w l i p).found ≤ most_cards
unfolding walk step
few_walk zero w l i p h = h
few_walk (suc k) w l i p h =
    let q = few_sent w l p (sent_passed l (frame p.reader) (record_at w l p.at)) h in
    few_follow i (step w l p).place (walk k w l (i + 2) (step w l p).place) (step w l p).says q (few_walk k w l (i + 2) (step w l p).place q)

pub few_found : (k w : ℕ) (l : List ℕ) → (walk k w l 0 start).found ≤ most_cards
unfolding start
few_found k w l = few_walk k w l 0 start (omega arith)
