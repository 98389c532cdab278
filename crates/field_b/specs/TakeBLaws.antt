-- Laws of the loop in which the cards of a field take a frame, the last first. What is done to an array's elements one by one stands in crate
-- field, for any elements. Assumes nothing.
use Rattle.std.specs.Prelude.{◌≡◌, refl, ℕ, suc, ◌+◌, ◌≤◌, ◌<◌, List, [], ◌∷◌, ◌++◌, length, take, drop, get_or, set, map}
use Rattle.std.proofs.Common.{sym, ap, ap₂, ◌∙◌, subst, add-one, append_assoc, append-nil, take_all, take-suc, length-take-le, drop_of_length-le, drop-cons, arith}
use Rattle.rows.specs.Rows.{overlay}
use Rattle.std.proofs.lemmas.List.{map-append, length-map}
use Rattle.std.proofs.Math.Seq.{get_or-append_seam, set-append_seam}
use Rattle.rows.proofs.RowLaws.{overlay_front, overlay_nil}
use Rattle.frame_b.specs.LimitsB.{answer_room_b}
use Rattle.card_b.specs.CallsB.{taken, bits_in}
use Rattle.card_b.specs.TakenBLaws.{bits_answer}
use Rattle.card_b.specs.CardB.{Step}
use Rattle.card_b.specs.declared.CardB.{CardB}
use Rattle.card_b.specs.declared.TakenB.{TakenB}
use Rattle.field.specs.JoinLaws.{length_join_other}
use Rattle.std.proofs.lemmas.Bool.Decides.{nat_tests}
use Rattle.field.specs.MergeLaws.{join_nil}
use Rattle.field.specs.Merge.{meet, join, merge}
use Rattle.field.specs.TakeLaws.{front_fits, over}
use Rattle.field_b.specs.CallsB.{one}
use Rattle.field_b.specs.FieldB.{takes_b, answers_b, all_take, heard_from}
use Rattle.field_b.specs.declared.Drawn.{Drawn}
use Rattle.field_b.specs.declared.within.OneB.{OneB}

-- ---- one card

-- a card's step s, as it stands in the answer x and in the row r, of which the first n bits count
pub record Answered (s : Step) (n : ℕ) (r : List ℕ) : Type 0 where
  pub fits : n ≤ answer_room_b
  pub bits : take n r ≡ s.1

pub answered : (c : CardB) (s : Step) (x : TakenB) (n : ℕ) (d r : List ℕ) → x ≡ taken c s → n ≡ bits_in x.answer → r ≡ overlay d 0 s.1 → length r ≡ answer_room_b
    → Answered s n r
answered c s x n d r e k o l =
    let m : n ≡ length s.1 = k ∙ ap (λ y. bits_in y.answer) e ∙ bits_answer s.1 in
    record {
      fits = omega (arith, front_fits d s.1 answer_room_b (ap length (sym o) ∙ l));
      bits = rw (m, o) (overlay_front d s.1);
    }

-- ---- all cards

-- the order in which rows meet does not tell
meet_comm : (a b : ℕ) → meet a b ≡ meet b a
unfolding meet
meet_comm a b = grind (arith, nat_tests)

meet_swap : (a b c : ℕ) → meet a (meet b c) ≡ meet b (meet a c)
unfolding meet
meet_swap a b c = grind (arith, nat_tests)

join_comm : (a b : List ℕ) → join a b ≡ join b a
unfolding join
join_comm [] b = sym (join_nil b)
join_comm (x ∷ a) [] = refl
join_comm (x ∷ a) (y ∷ b) = ap₂ (λ h t. h ∷ t) (meet_comm x y) (join_comm a b)

join_swap : (a b c : List ℕ) → join a (join b c) ≡ join b (join a c)
unfolding join
join_swap [] b c = refl
join_swap (x ∷ a) [] c = refl
join_swap (x ∷ a) (y ∷ b) [] = join_comm (x ∷ a) (y ∷ b)
join_swap (x ∷ a) (y ∷ b) (z ∷ c) = ap₂ (λ h t. h ∷ t) (meet_swap x y z) (join_swap a b c)

merge_more : (S : List (List ℕ)) (r : List ℕ) → merge (S ++ (r ∷ [])) ≡ join r (merge S)
unfolding merge
merge_more [] r = refl
merge_more (s ∷ S) r = ap (join s) (merge_more S r) ∙ join_swap s r (merge S)

-- the first i of the cards have taken the frame f
pub record Under (heard₀ : List ℕ) (ds₀ : List Drawn) (f : List ℕ) (heard : List ℕ) (ds : List Drawn) (bits i : ℕ) : Type 0 where
  pub count : bits ≡ length (heard_from f (take i ds₀))
  pub row : heard ≡ overlay heard₀ 0 (heard_from f (take i ds₀))
  pub cards : ds ≡ all_take f (take i ds₀) ++ drop i ds₀

pub under_none : (heard : List ℕ) (ds : List Drawn) (f : List ℕ) → Under heard ds f heard ds 0 0
unfolding heard_from merge all_take
under_none heard ds f = record { count = refl; row = sym (overlay_nil heard 0); cards = refl }

module _ (f : List ℕ) (ds : List Drawn) (i : ℕ) (d : Drawn) (h : i < length ds) where
  abbrev x : Drawn
  x = get_or ds i d

  abbrev so_far : List Drawn
  so_far = all_take f (take i ds)

  long : length so_far ≡ i
  unfolding all_take
  long = length-map (take i ds) (takes_b f) ∙ length-take-le i ds (omega arith)

  split : drop i ds ≡ x ∷ drop (suc i) ds
  split = drop-cons ds i d h

  here : get_or (so_far ++ drop i ds) i d ≡ x
  here =
      ap (λ r. get_or (so_far ++ r) i d) split
      ∙ subst (λ m. get_or (so_far ++ x ∷ drop (suc i) ds) m d ≡ x) long (get_or-append_seam so_far x (drop (suc i) ds) d)

  all_more : all_take f (take (i + 1) ds) ≡ so_far ++ (takes_b f x ∷ [])
  unfolding all_take
  all_more = rw (add-one, take-suc ds i d h, map-append (takes_b f))

  stored : set (so_far ++ drop i ds) i (takes_b f x) ≡ all_take f (take (i + 1) ds) ++ drop (i + 1) ds
  stored =
      ap (λ r. set (so_far ++ r) i (takes_b f x)) split
      ∙ subst (λ m. set (so_far ++ x ∷ drop (suc i) ds) m (takes_b f x) ≡ so_far ++ takes_b f x ∷ drop (suc i) ds) long (set-append_seam so_far x (drop (suc i) ds) (takes_b f x))
      ∙ rw (all_more, add-one, append_assoc)

  heard_more : heard_from f (take (i + 1) ds) ≡ join (answers_b f x) (heard_from f (take i ds))
  unfolding heard_from
  heard_more = rw (add-one, take-suc ds i d h, map-append (answers_b f)) (merge_more (map (answers_b f) (take i ds)) (answers_b f x))

  -- one card more
  pub under_turn : (heard₀ heard : List ℕ) (ws : List Drawn) (bits : ℕ) → Under heard₀ ds f heard ws bits i
      → (o : OneB) → o ≡ one (get_or ws i d) f (take bits heard)
      → (heard' : List ℕ) → heard' ≡ overlay heard 0 (join (answers_b f (get_or ws i d)) (take bits heard))
      → Under heard₀ ds f heard' (set ws i o.drawn) o.bits (i + 1)
  under_turn heard₀ heard ws bits u o e heard' e' =
      let H : List ℕ = heard_from f (take i ds) in
      let c : get_or ws i d ≡ x = ap (λ l. get_or l i d) u.cards ∙ here in
      let t : take bits heard ≡ H = rw (u.row, u.count) (overlay_front heard₀ H) in
      let A : List ℕ = answers_b f (get_or ws i d) in
      let next : heard_from f (take (i + 1) ds) ≡ join A H = rw c heard_more in
      record {
        count = ap (λ y. y.bits) e ∙ ap (λ r. length (join A r)) t ∙ ap length (sym next);
        row = e' ∙ ap (λ r. overlay heard 0 (join A r)) t ∙ ap (λ r. overlay r 0 (join A H)) u.row ∙ over heard₀ H (join A H) (length_join_other A H) ∙ ap (overlay heard₀ 0) (sym next);
        cards = rw (ap (λ y. y.drawn) e, c, u.cards) stored;
      }

-- all of them
pub under_done : (heard₀ : List ℕ) (ds : List Drawn) (f heard : List ℕ) (ws : List Drawn) (bits i : ℕ) → Under heard₀ ds f heard ws bits i → length ds ≤ i
    → (ws ≡ all_take f ds) × (bits ≡ length (heard_from f ds)) × (heard ≡ overlay heard₀ 0 (heard_from f ds))
under_done heard₀ ds f heard ws bits i u h =
    let e : take i ds ≡ ds = take_all i ds h in
    (u.cards ∙ rw (e, drop_of_length-le ds {i = i} h, append-nil), rw e at u.count, rw e at u.row)
