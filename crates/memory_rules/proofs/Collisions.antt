-- Each collision is met once: over rows in falling order the new collisions are one fewer than the rows. Assumes nothing.
use mathlib.Core.Path.{◌≡◌, refl, sym, ap, ap₂, ◌∙◌}
use Prim.Native.Nat.{ℕ, zero, suc, ◌+◌, ◌-◌}
use mathlib.Core.Bool.{Bool, true, false, cond, ◌&&◌, false≢true}
use mathlib.Core.Option.{Option, none, some}
use mathlib.Core.List.{List, [], ◌∷◌, map}
use lib.ListN.{length}
use lib.Dec.{ltb, eqb, eqb-suc-zero}
use borrow.Author.Tests.{lt-ltb, le-ltb, eqb-true, eqb-false}
use native.Mathlib.Omega.{arith}
use Rattle.rows.specs.Rows.{All, any}
use Rattle.rows.specs.EachLaws.{all_weaken}
use Rattle.uid.specs.Order.{Diff, on, off, later, diff, is_up, above, one, count, parts_at, parts}
use Rattle.uid.specs.OrderLaws.{lead, from, diff_cons, lead_some, lead_same}
use Rattle.uid.specs.PartsLaws.{count_cong, parts_le}
use Rattle.uid.specs.Uid.{row_of}
use Rattle.sweep_rules.proofs.Abstract.{Falling}
use Rattle.sweep_rules.proofs.First.{put, pull, out, miss, parts_cons, parts_later}
use Rattle.memory_rules.specs.Count.{is_past, parts_past, new_collisions, add_up, collisions}
use Rattle.memory_rules.proofs.Branches.{all_pull}
use Rattle.memory_rules.proofs.Past.{count_suc, ltb_suc}
use Rattle.uid.specs.declared.Uid.{Uid}

parts_none : (P : List ℕ) → parts P [] ≡ 0
parts_none P = omega (arith, parts_le P [])

-- ---- rows with the same first bit

past_cons : (x : ℕ) (v t : List ℕ) (l : List (List ℕ)) → parts_past (x ∷ v) (x ∷ t) l ≡ parts_past v t (pull x l)
unfolding parts_past from
past_cons x v t l =
    ap (λ D. count (suc (length t)) (λ q. is_past D q && any (λ r. parts_at q (diff (x ∷ t) r)) l)) (diff_cons x v (x ∷ t) ∙ ap (from x v) (lead_same x t))
    ∙ count_suc (length t) (λ q. is_past (later (diff v t)) q && any (λ r. parts_at q (diff (x ∷ t) r)) l) (ap (λ b. b && any (λ r. parts_at 0 (diff (x ∷ t) r)) l) (here (diff v t)))
    ∙ count_cong (length t) (λ q h. ap₂ ◌&&◌ (there (diff v t) q) (parts_later x t q l))
  where
    here : (D : Diff) → is_past (later D) 0 ≡ false
    here (on u) = unfold is_past later in refl
    here (off p y) = unfold is_past later in le-ltb (suc p) 0 (omega arith)

    there : (D : Diff) (q : ℕ) → is_past (later D) (suc q) ≡ is_past D q
    there (on u) q = unfold is_past later in refl
    there (off p y) q = unfold is_past later in ltb_suc p q

above_tail : (x : ℕ) (v t : List ℕ) → above (x ∷ v) (x ∷ t) ≡ true → above v t ≡ true
unfolding above from
above_tail x v t a = sym (same (diff v t)) ∙ ap is_up (sym (diff_cons x v (x ∷ t) ∙ ap (from x v) (lead_same x t))) ∙ a
  where
    same : (D : Diff) → is_up (later D) ≡ is_up D
    same (on u) = unfold is_up later in refl
    same (off p y) = unfold is_up later in refl

-- ---- rows below one that goes on with another bit than 1

-- none of them goes on with 1, and the one parts from none of them at once
record Below (r s : List ℕ) : Type 0 where
  pub other : lead 1 s ≡ none
  pub not_here : parts_at 0 (diff r s) ≡ false

below : (r s : List ℕ) → lead 1 r ≡ none → above r s ≡ true → Below r s
below [] s e a = absurd (false≢true (unfold above is_up diff in a))
below (y ∷ r) s e a = let up : is_up (diff (y ∷ r) s) ≡ true = unfold above in a in go (lead y s) refl (rw diff_cons at up)
  where
    apart : (b : Bool) → eqb 1 y ≡ b → cond b (some r) none ≡ none → eqb 1 y ≡ false
    apart true p q = cc
    apart false p q = p

    not_one : eqb 1 y ≡ false
    not_one = apart (eqb 1 y) refl (unfold lead in e)

    at_zero : (D : Diff) → parts_at 0 (later D) ≡ false
    at_zero (on t) = unfold parts_at later in refl
    at_zero (off p x) = unfold parts_at later in eqb-suc-zero p

    go : (o : Option (List ℕ)) → lead y s ≡ o → is_up (from y r o) ≡ true → Below (y ∷ r) s
    go (some t) p u = record { other = rw (lead_some y s t p) (unfold lead in rw not_one); not_here = rw (diff_cons, p) (unfold from in at_zero (diff r t)) }
    go none p u = absurd (eqb-false 1 y not_one (sym (eqb-true y 1 (unfold is_up from in u))))

pulls_none : (l : List (List ℕ)) → All (λ s. lead 1 s ≡ none) l → pull 1 l ≡ []
unfolding pull put
pulls_none [] h = refl
pulls_none (s ∷ l) h = rw h.0 (pulls_none l h.1)

any_none : (f : List ℕ → Bool) (l : List (List ℕ)) → All (λ s. f s ≡ false) l → any f l ≡ false
unfolding any
any_none f [] h = refl
any_none f (s ∷ l) h = rw h.0 (any_none f l h.1)

-- every position at which it parts from them is past its first
past_all : (r : List ℕ) (l : List (List ℕ)) (x : ℕ) (v : List ℕ) → diff v r ≡ off 0 x → All (λ s. parts_at 0 (diff r s) ≡ false) l → parts_past v r l ≡ parts r l
unfolding parts_past parts
past_all r l x v d h = rw d (count_cong (length r) (λ q k. unfold is_past in go q))
  where
    go : (q : ℕ) → (ltb 0 q && any (λ s. parts_at q (diff r s)) l) ≡ any (λ s. parts_at q (diff r s)) l
    go zero = sym (any_none (λ s. parts_at 0 (diff r s)) l h)
    go (suc q) = rw (lt-ltb 0 (suc q) (omega arith))

-- ---- a row, the next one, and those after it

-- two rows that part at once
parts_first : (x : ℕ) (v r : List ℕ) → lead x r ≡ none → diff (x ∷ v) r ≡ off 0 x
unfolding from
parts_first x v r e = diff_cons x v r ∙ ap (from x v) e

up_one : (x p : ℕ) (r s : List ℕ) → above r s ≡ true → diff r s ≡ off p x → x ≡ 1
unfolding above is_up
up_one x p r s a d = eqb-true x 1 (rw d at a)

goes_on_law : (x : ℕ) (v t : List ℕ) (l : List (List ℕ)) → parts (x ∷ v) ((x ∷ t) ∷ l) ≡ one (miss x l) + parts v (t ∷ pull x l)
unfolding miss any pull put out
goes_on_law x v t l = parts_cons x v ((x ∷ t) ∷ l) ∙ rw lead_same

parts_off : (x : ℕ) (v r : List ℕ) (l : List (List ℕ)) → lead x r ≡ none → parts (x ∷ v) (r ∷ l) ≡ 1 + parts v (pull x l)
unfolding miss any pull put out one
parts_off x v r l e = parts_cons x v (r ∷ l) ∙ rw e

met_once : (v r : List ℕ) (l : List (List ℕ)) → above v r ≡ true → All (λ s. above r s ≡ true) l → parts v (r ∷ l) + parts_past v r l ≡ suc (parts r l)
met_once [] r l a b = absurd (false≢true (unfold above is_up diff in a))
met_once (x ∷ v) r l a b = go (lead x r) refl (λ t. met_once v t (pull x l))
  where
    go : (o : Option (List ℕ)) → lead x r ≡ o → ((t : List ℕ) → above v t ≡ true → All (λ s. above t s ≡ true) (pull x l) → parts v (t ∷ pull x l) + parts_past v t (pull x l) ≡ suc (parts t (pull x l)))
        → parts (x ∷ v) (r ∷ l) + parts_past (x ∷ v) r l ≡ suc (parts r l)
    go (some t) e ih =
        let q : r ≡ x ∷ t = lead_some x r t e in
        let a' : above v t ≡ true = above_tail x v t (rw q at a) in
        let b' : All (λ s. above t s ≡ true) (pull x l) = all_pull (λ s. above (x ∷ t) s ≡ true) (λ s. above t s ≡ true) x l (λ s k. above_tail x t s k) (rw q at b) in
        rw (q, goes_on_law x v t l, past_cons x v t l, parts_cons x t l) (omega (arith, ih t a' b'))
    go none e ih =
        let d : diff (x ∷ v) r ≡ off 0 x = parts_first x v r e in
        let x≡1 : x ≡ 1 = up_one x 0 (x ∷ v) r a d in
        let h : All (λ s. Below r s) l = all_weaken l (λ s k. below r s (rw x≡1 at e) k) b in
        let z : pull x l ≡ [] = rw x≡1 (pulls_none l (all_weaken l (λ s k. k.other) h)) in
        rw (parts_off x v r l e, z, parts_none v, past_all r l x (x ∷ v) d (all_weaken l (λ s k. k.not_here) h)) (omega arith)

-- ---- all rows

met_after_law : (v : Uid) (us : List Uid) → Falling (map row_of (v ∷ us)) → parts (row_of v) (map row_of us) + add_up new_collisions v us ≡ length us
unfolding add_up new_collisions
met_after_law v [] d = omega (arith, parts_none (row_of v))
met_after_law v (u ∷ us) d = omega (arith, met_once (row_of v) (row_of u) (map row_of us) d.0.0 d.1.0, met_after_law u us d.1)

pub all_met : (us : List Uid) → Falling (map row_of us) → collisions us ≡ length us - 1
unfolding collisions
all_met [] d = refl
all_met (u ∷ us) d = omega (arith, met_after_law u us d)
