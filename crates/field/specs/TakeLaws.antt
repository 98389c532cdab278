-- Laws of the loop in which the cards of a field take a frame, the last first. Assumes nothing.
use Rattle.std.specs.Prelude.{◌≡◌, length, take, drop, get_or, set}
use Rattle.std.proofs.Math.Path.{refl, ap}
use Rattle.std.proofs.Common.{sym, ◌∙◌, not-suc-le-zero, take-append-drop, drop_of_length-le, drop-cons, get_or-take, drop-drop, arith}
use Prim.Native.Nat.{ℕ, zero, suc, ◌+◌, ◌-◌, ◌≤◌, ◌<◌}
use mathlib.Core.List.{List, [], ◌∷◌, ◌++◌, map}
use Rattle.std.proofs.Math.ListN.{length-take}
use Rattle.std.proofs.Math.Seq.{drop-append-add}
use Rattle.rows.specs.Rows.{overlay}
use Rattle.rows.proofs.RowLaws.{overlay_front, overlay_fits}
use Rattle.card.specs.Calls.{taken, bits_in}
use Rattle.card.specs.TakenLaws.{bits_answer}
use Rattle.card.specs.Card.{Step, takes, answers}
use Rattle.card.specs.declared.Card.{Card}
use Rattle.card.specs.declared.Taken.{Taken}
use Rattle.field.specs.Calls.{one, cards_after}
use Rattle.field.specs.declared.within.One.{One}
use Rattle.field.specs.Field.{all_take, heard_from}
use Rattle.field.specs.JoinLaws.{front, length_join_other}
use Rattle.field.specs.Merge.{join, merge}

-- ---- one card

-- what was written at the front of a row fits it
pub front_fits : (d s : List ℕ) (n : ℕ) → length (overlay d 0 s) ≡ n → length s ≤ n
front_fits d s n e = omega (arith, e, overlay_fits d s)

-- a card's step s, as it stands in the answer x and in the row r, of which the first n bits count
pub record Answered (s : Step) (n : ℕ) (r : List ℕ) : Type 0 where
  pub fits : n ≤ 45
  pub bits : take n r ≡ s.1

pub answered : (c : Card) (s : Step) (x : Taken) (n : ℕ) (d r : List ℕ) → x ≡ taken c s → n ≡ bits_in x.answer → r ≡ overlay d 0 s.1 → length r ≡ 45
    → Answered s n r
answered c s x n d r e k o l =
    let m : n ≡ length s.1 = k ∙ ap (λ y. bits_in y.answer) e ∙ bits_answer s.1 in
    record {
      fits = omega (arith, front_fits d s.1 45 (ap length (sym o) ∙ l));
      bits = rw (m, o) (overlay_front d s.1);
    }

-- ---- elements replaced one by one, the last first

module _ {A : Type 0} (g : A → A) where
  -- g done to the elements from i to n
  unfoldable pub from : ℕ → ℕ → List A → List A
  from i n l = take i l ++ (map g (drop i (take n l)) ++ drop n l)

  pub from_none : (n : ℕ) (l : List A) → l ≡ from n n l
  unfolding from
  from_none n l = rw (drop_of_length-le (take n l) {i = n} (rw length-take (omega arith)), take-append-drop)

  read : (i n : ℕ) (l : List A) (d : A) → i < n → i < length l → get_or (from (suc i) n l) i d ≡ get_or l i d
  unfolding from
  read i zero l d h k = absurd (not-suc-le-zero h)
  read i (suc n) [] d h k = absurd (not-suc-le-zero k)
  read zero (suc n) (x ∷ l) d h k = refl
  read (suc i) (suc n) (x ∷ l) d h k = read i n l d (omega arith) (omega arith)

  store : (i n : ℕ) (l : List A) (d : A) → i < n → i < length l → set (from (suc i) n l) i (g (get_or l i d)) ≡ from i n l
  unfolding from
  store i zero l d h k = absurd (not-suc-le-zero h)
  store i (suc n) [] d h k = absurd (not-suc-le-zero k)
  store zero (suc n) (x ∷ l) d h k = refl
  store (suc i) (suc n) (x ∷ l) d h k = ap (λ r. x ∷ r) (store i n l d (omega arith) (omega arith))

  pub from_read : (i n : ℕ) (l : List A) (d : A) → 0 < i → i ≤ n → n ≤ length l → get_or (from i n l) (i - 1) d ≡ get_or l (i - 1) d
  from_read zero n l d z h k = absurd (not-suc-le-zero z)
  from_read (suc i) n l d z h k = let e : suc i - 1 ≡ i = omega arith in rw e (read i n l d (omega arith) (omega arith))

  pub from_turn : (i n : ℕ) (l : List A) (d : A) → 0 < i → i ≤ n → n ≤ length l → set (from i n l) (i - 1) (g (get_or l (i - 1) d)) ≡ from (i - 1) n l
  from_turn zero n l d z h k = absurd (not-suc-le-zero z)
  from_turn (suc i) n l d z h k = let e : suc i - 1 ≡ i = omega arith in rw e (store i n l d (omega arith) (omega arith))

pub from_done : (f : List ℕ) (n : ℕ) (cs : List Card) → from (λ k. takes k f) 0 n cs ≡ cards_after cs n f
unfolding from cards_after all_take
from_done f n cs = refl

-- ---- what is heard, one card more

pub heard_none : (f : List ℕ) (n : ℕ) (cs : List Card) → heard_from f (drop n (take n cs)) ≡ []
unfolding heard_from merge
heard_none f n cs = rw (drop_of_length-le (take n cs) {i = n} (rw length-take (omega arith)))

pub heard_turn : (f : List ℕ) (i n : ℕ) (cs : List Card) (d : Card) → 0 < i → i ≤ n → n ≤ length cs
    → heard_from f (drop (i - 1) (take n cs)) ≡ join (answers (get_or cs (i - 1) d) f) (heard_from f (drop i (take n cs)))
unfolding heard_from merge
heard_turn f zero n cs d z h k = absurd (not-suc-le-zero z)
heard_turn f (suc i) n cs d z h k =
    let e : suc i - 1 ≡ i = omega arith in
    rw (e, drop-cons (take n cs) i d (rw length-take (omega arith)), get_or-take n cs i d (omega arith))

-- a longer row takes the place of a shorter one
pub over : (d s t : List ℕ) → length s ≤ length t → overlay (overlay d 0 s) 0 t ≡ overlay d 0 t
over d s t h =
    let e : length t ≡ length s + (length t - length s) = omega arith in
    rw (front (overlay d 0 s) t, front d s, front d t) (ap (λ r. t ++ r) (rw (e, drop-append-add, drop-drop)))

-- ---- a turn of the loop

-- cards from i on have taken the frame f, H is what is heard of them
pub record Under (heard₀ : List ℕ) (cs₀ : List Card) (n : ℕ) (f : List ℕ) (heard : List ℕ) (cs : List Card) (bits i : ℕ) : Type 0 where
  pub count : bits ≡ length (heard_from f (drop i (take n cs₀)))
  pub row : heard ≡ overlay heard₀ 0 (heard_from f (drop i (take n cs₀)))
  pub cards : cs ≡ from (λ k. takes k f) i n cs₀

pub under_turn : (heard₀ : List ℕ) (cs₀ : List Card) (n : ℕ) (f heard : List ℕ) (cs : List Card) (bits i : ℕ)
    → Under heard₀ cs₀ n f heard cs bits i → 0 < i → i ≤ n → n ≤ length cs₀
    → (d : Card) (o : One) → o ≡ one (get_or cs (i - 1) d) f (take bits heard)
    → (heard' : List ℕ) → heard' ≡ overlay heard 0 (join (answers (get_or cs (i - 1) d) f) (take bits heard))
    → Under heard₀ cs₀ n f heard' (set cs (i - 1) o.card) o.bits (i - 1)
under_turn heard₀ cs₀ n f heard cs bits i u z h k d o e heard' e' =
    let H : List ℕ = heard_from f (drop i (take n cs₀)) in
    let c : get_or cs (i - 1) d ≡ get_or cs₀ (i - 1) d = ap (λ l. get_or l (i - 1) d) u.cards ∙ from_read (λ k. takes k f) i n cs₀ d z h k in
    let t : take bits heard ≡ H = rw (u.row, u.count) (overlay_front heard₀ H) in
    let A : List ℕ = answers (get_or cs (i - 1) d) f in
    let next : heard_from f (drop (i - 1) (take n cs₀)) ≡ join A H = rw c (heard_turn f i n cs₀ d z h k) in
    record {
      count = ap (λ x. x.bits) e ∙ ap (λ r. length (join A r)) t ∙ ap length (sym next);
      row = e' ∙ ap (λ r. overlay heard 0 (join A r)) t ∙ ap (λ r. overlay r 0 (join A H)) u.row ∙ over heard₀ H (join A H) (length_join_other A H) ∙ ap (overlay heard₀ 0) (sym next);
      cards = rw (ap (λ x. x.card) e, c, u.cards) (from_turn (λ k. takes k f) i n cs₀ d z h k);
    }
