-- A row whose cards are the first of an array: what the call over the array says of them, it says of the row. Assumes nothing.
use Rattle.std.specs.Prelude.{◌≡◌, ℕ, ◌<◌, Bool, ◌||◌, List, [], ◌++◌, take, drop}
use Rattle.std.proofs.Math.Path.{refl, ap}
use Rattle.std.proofs.Common.{sym, subst, ◌∙◌, arith, append-nil, length-append, take-append-drop, drop_of_length-le, take_at}
use Rattle.std.proofs.Math.Bool.{true, false, cond, not}
use Rattle.std.proofs.Math.ListN.{length}
use Rattle.std.proofs.Math.Seq.{take-length}
use Rattle.std.proofs.Math.Dec.{ltb}
use borrow.Author.Tests.{lt-ltb, le-ltb}
use Rattle.limits.specs.Limits.{most_cards}
use Rattle.uid.specs.Calls.{valid_bytes, uid_of}
use Rattle.reader.specs.Calls.{turn_says}
use Rattle.reader.specs.Reader.{is_new, wakes}
use Rattle.refusal.specs.Refusal.{decline_if}
use Rattle.sweep_rules.specs.Run.{Out, plain, run}
use Rattle.sweep_rules.specs.RunLaws.{run_cards}
use Rattle.sweep_rules.specs.Terms.{within}
use Rattle.wake_rules.specs.Claim.{Wakes}
use Rattle.wake_rules.specs.Wake.{wake}
use Rattle.wake.specs.CallLaws.{Promised}
use Rattle.wake.specs.Promise.{Terms, woken_says, wake_says, Wakens}
use Rattle.wake.specs.Wake.{refused, done, wake_of}
use Rattle.wake.specs.declared.Woken.{Woken}
use Rattle.card.specs.declared.Card.{Card}
use Rattle.reader.specs.declared.Reader.{Reader}
use Rattle.refusal.specs.declared.Refusal.TheVariants.{Argument, NotDue}
use Rattle.uid.specs.declared.Uid.{Uid}
use Rattle.wake_row.specs.Row.{woken_row, row_of}
use Rattle.wake_row.specs.declared.RowWoken.{RowWoken}

wake_cards : (u : Uid) (cs : List Card) → length (wake u cs).cards ≡ length cs
unfolding wake run
wake_cards u cs = run_cards plain _ (wakes u) cs

-- the call leaves as many cards as there were
pub woken_cards : (r : Reader) (l : List ℕ) (h : List Card) (n : ℕ) → length (wake_of r l h n).cards ≡ length h
unfolding wake_of done
woken_cards r l h n = go (not (is_new r.phase)) (not (valid_bytes l) || ltb most_cards n || not (within (take n h)))
  where
    go : (a b : Bool) → length (cond a (refused r h NotDue) (cond b (refused r h Argument) (done h n (wake (uid_of l) (take n h))))).cards ≡ length h
    go true b = refl
    go false true = refl
    go false false = rw (length-append, wake_cards, ← length-append, take-append-drop)

-- ---- the row of n cards ys, and an array h

module _ (r : Reader) (l : List ℕ) (h ys : List Card) (n : ℕ) (long : length ys ≡ n) where
  abbrev w : Woken
  w = wake_of r l h n

  whole : take n ys ≡ ys
  whole = subst (λ m. take m ys ≡ ys) long (take-length ys)

  none : drop n ys ≡ []
  none = drop_of_length-le ys {i = n} (omega (arith, long))

  -- within the terms the call is the run
  runs : Terms r l ys n → wake_of r l ys n ≡ done ys n (wake (uid_of l) (take n ys))
  unfolding wake_of
  runs t = rw (t.new, t.uid, le-ltb most_cards n t.few, t.field)

  promised : (s : Woken) → s ≡ wake_of r l ys n → woken_says s ≡ wake_says r l ys n → (Terms r l ys n → Wakes (take n ys) (uid_of l) (wake (uid_of l) (take n ys))) → Promised r l ys n s
  promised s e says claim = (e, record { says = says; run = λ t. e ∙ runs t; claim = claim })

  -- more cards than the limit: the row stays as it was
  pub too_many : most_cards < n → Wakens r l h n w → Promised r l ys n (woken_row (row_of w) ys)
  unfolding wake_of
  too_many many k =
      promised (woken_row (row_of w) ys) (rw (lt-ltb most_cards n many) (go (not (is_new r.phase)) (not (valid_bytes l)) (not (within (take n h))) (not (within (take n ys)))))
      (k.says ∙ rw (lt-ltb most_cards n many) (same (not (is_new r.phase)) (not (valid_bytes l)) (not (within (take n h))) (not (within (take n ys))))) (λ t. absurd (omega (arith, t.few)))
    where
      go : (a b x y : Bool) → woken_row (row_of (cond a (refused r h NotDue) (cond (b || true || x) (refused r h Argument) (done h n (wake (uid_of l) (take n h)))))) ys
          ≡ cond a (refused r ys NotDue) (cond (b || true || y) (refused r ys Argument) (done ys n (wake (uid_of l) (take n ys))))
      go true b x y = refl
      go false true x y = refl
      go false false x y = refl

      same : (a b x y : Bool) → decline_if a 11 (decline_if (b || true || x) 6 (turn_says (wake (uid_of l) (take n h)).last)) ≡ decline_if a 11 (decline_if (b || true || y) 6 (turn_says (wake (uid_of l) (take n ys)).last))
      same true b x y = refl
      same false true x y = refl
      same false false x y = refl

  -- the row is the first n cards of the array
  module _ (first : take n h ≡ ys) where
    one : take n ys ≡ take n h
    one = whole ∙ sym first

    abbrev o : Out
    o = wake (uid_of l) (take n h)

    cards_are : take n (o.cards ++ drop n h) ≡ o.cards ++ drop n ys
    cards_are =
        let e : length o.cards ≡ n = wake_cards (uid_of l) (take n h) ∙ ap length first ∙ long in
        take_at o.cards (drop n h) n e ∙ sym (ap (λ k. o.cards ++ k) none ∙ append-nil o.cards)

    is_call : woken_row (row_of w) (take n w.cards) ≡ wake_of r l ys n
    unfolding wake_of done
    is_call = rw one (go (not (is_new r.phase)) (not (valid_bytes l) || ltb most_cards n || not (within (take n h))))
      where
        go : (a b : Bool) → woken_row (row_of (cond a (refused r h NotDue) (cond b (refused r h Argument) (done h n o)))) (take n (cond a (refused r h NotDue) (cond b (refused r h Argument) (done h n o))).cards)
            ≡ cond a (refused r ys NotDue) (cond b (refused r ys Argument) (done ys n o))
        go true b = ap (λ k. refused r k NotDue) first
        go false true = ap (λ k. refused r k Argument) first
        go false false = ap (λ k. record { reader = o.last.reader; answer = o.last.answer; cards = k; frames = length o.exchanges }) cards_are

    terms_too : Terms r l ys n → Terms r l h n
    terms_too t = record { new = t.new; uid = t.uid; few = t.few; field = ap within (sym one) ∙ t.field }

    pub carried : Wakens r l h n w → Promised r l ys n (woken_row (row_of w) (take n w.cards))
    carried k =
        promised (woken_row (row_of w) (take n w.cards)) is_call
        (k.says ∙ ap (λ x. decline_if (not (is_new r.phase)) 11 (decline_if (not (valid_bytes l) || ltb most_cards n || not (within x)) 6 (turn_says (wake (uid_of l) x).last))) (sym one))
        (λ t. subst (λ x. Wakes x (uid_of l) (wake (uid_of l) x)) (sym one) (k.claim (terms_too t)))

-- what the call made of the row, where w is the call over the array
module _ (r : Reader) (l : List ℕ) (h ys : List Card) (n : ℕ) (long : length ys ≡ n) (w : Woken) (e : w ≡ wake_of r l h n) (k : Wakens r l h n w) (s : RowWoken) (d : s ≡ row_of w) where
  pub row_declined : most_cards < n → Promised r l ys n (woken_row s ys)
  row_declined many = rw (d, e) (too_many r l h ys n long many (rw e at k))

  pub row_woken : take n h ≡ ys → (after : List Card) → after ≡ take n w.cards → Promised r l ys n (woken_row s after)
  row_woken first after a = rw (d, a, e) (carried r l h ys n long first (rw e at k))
