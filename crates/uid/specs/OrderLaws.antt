-- Laws of the first difference of two rows. `lead x r` is what r has left after a first bit x; after `diff-cons` no proof looks at a test of
-- two bits again. Assumes nothing.
use Rattle.std.specs.Prelude.{◌≡◌, refl, ◌≢◌, ℕ, suc, ◌<◌, ◌≤◌, Bool, true, false, cond, List, [], ◌∷◌, ◌++◌, take, drop, get_or, length, ltb, eqb}
use Rattle.std.proofs.Common.{ap, ap₂, ◌∙◌, sym, not-suc-le-zero, take-append-drop, take_all, eqb→eq, eqb-true, ltb-true, ltb-false, arith}
use Rattle.std.proofs.Math.Option.{Option, none, some}
use Rattle.std.proofs.lemmas.Bool.{eqb-false}
use Rattle.rows.specs.CleanLaws.{eqb_same}
use Rattle.uid.specs.Order.{Diff, on, off, later, diff}

unfoldable pub lead : ℕ → List ℕ → Option (List ℕ)
lead x [] = none
lead x (y ∷ r) = cond (eqb x y) (some r) none

unfoldable pub from : ℕ → List ℕ → Option (List ℕ) → Diff
unfolding later diff
from x P (some t) = later (diff P t)
from x P none = off 0 x

pub diff_cons : (x : ℕ) (P r : List ℕ) → diff (x ∷ P) r ≡ from x P (lead x r)
unfolding diff later from lead
diff_cons x P [] = refl
diff_cons x P (y ∷ r) = go (eqb x y)
  where
    go : (b : Bool) → cond b (later (diff P r)) (off 0 x) ≡ from x P (cond b (some r) none)
    go true = refl
    go false = refl

pub lead_some : (x : ℕ) (r t : List ℕ) → lead x r ≡ some t → r ≡ x ∷ t
unfolding lead
lead_some x [] t e = cc
lead_some x (y ∷ r) t e = go (eqb x y) refl e
  where
    go : (b : Bool) → eqb x y ≡ b → cond b (some r) none ≡ some t → y ∷ r ≡ x ∷ t
    go true p q = let h : x ≡ y = eqb→eq x y (rw p tt) in cc
    go false p q = cc

pub lead_same : (x : ℕ) (r : List ℕ) → lead x (x ∷ r) ≡ some r
unfolding lead
lead_same x r = rw eqb_same

-- ---- a row that is the other's head

later_on : (D : Diff) (t : List ℕ) → later D ≡ on t → D ≡ on t
unfolding later
later_on (on u) t e = e
later_on (off p x) t e = cc

pub diff_on : (P r t : List ℕ) → diff P r ≡ on t → r ≡ P ++ t
unfolding diff from
diff_on [] r t e = cc
diff_on (x ∷ P) r t e = go (lead x r) refl (rw diff_cons at e) (λ u. diff_on P u t)
  where
    go : (o : Option (List ℕ)) → lead x r ≡ o → from x P o ≡ on t → ((u : List ℕ) → diff P u ≡ on t → u ≡ P ++ t) → r ≡ x ∷ P ++ t
    go (some u) p q ih = lead_some x r u p ∙ ap (λ l. x ∷ l) (ih u (later_on (diff P u) t q))
    go none p q ih = cc

pub diff_head : (P t : List ℕ) → diff P (P ++ t) ≡ on t
unfolding diff later
diff_head [] t = refl
diff_head (x ∷ P) t = rw (eqb_same, diff_head P t)

-- ---- rows that part before the first ends

abbrev pub Off : Diff → Type 0
Off (on t) = ⊥
Off (off p x) = Unit {0}

off_later : (D : Diff) → Off (later D) → Off D
unfolding later
off_later (on t) h = h
off_later (off p x) h = tt

pub off_under : (P t u : List ℕ) → Off (diff (P ++ t) (P ++ u)) → Off (diff t u)
unfolding diff
off_under [] t u h = h
off_under (x ∷ P) t u h = off_under P t u (off_later (diff (P ++ t) (P ++ u)) (rw eqb_same at h))

-- they agree before p, and at p they differ, if the second does not end there
pub record Parted (r s : List ℕ) (p : ℕ) : Type 0 where
  pub before : take p r ≡ take p s
  pub in_first : p < length r
  pub differ : p < length s → get_or r p 0 ≢ get_or s p 0

later_off : (D : Diff) (p x : ℕ) → later D ≡ off p x → (q : ℕ) × (p ≡ suc q) × (D ≡ off q x)
unfolding later
later_off (on t) p x e = let z : ◌≡◌ {A = ℕ} 0 1 = cc in absurd (omega arith)
later_off (off q y) p x e = (q, cc, cc)

pub parted : (r s : List ℕ) (p x : ℕ) → diff r s ≡ off p x → Parted r s p
unfolding diff
parted [] s p z e = let o : ◌≡◌ {A = ℕ} 0 1 = cc in absurd (omega arith)
parted (x ∷ r) [] p z e = let h : p ≡ 0 = cc in rw h (record { before = refl; in_first = omega arith; differ = λ k. absurd (not-suc-le-zero k) })
parted (x ∷ r) (y ∷ s) p z e = go (eqb x y) refl e (λ q. parted r s q z)
  where
    go : (b : Bool) → eqb x y ≡ b → cond b (later (diff r s)) (off 0 x) ≡ off p z → ((q : ℕ) → diff r s ≡ off q z → Parted r s q) → Parted (x ∷ r) (y ∷ s) p
    go true t e ih =
        let l : (q : ℕ) × (p ≡ suc q) × (diff r s ≡ off q z) = later_off (diff r s) p z e in
        let i : Parted r s l.0 = ih l.0 l.2 in
        rw l.1 (record {
          before = ap₂ ◌∷◌ (eqb-true x y t) i.before;
          in_first = omega (arith, i.in_first);
          differ = λ k. i.differ (omega arith);
        })
    go false t e ih =
        let h : p ≡ 0 = cc in
        rw h (record { before = refl; in_first = omega arith; differ = λ k. eqb-false x y t })

-- .. and it does not, where it is not the first row's head
pub in_second : (r s : List ℕ) (p x : ℕ) → diff r s ≡ off p x → Off (diff s r) → p < length s
in_second r s p x e o = go (ltb p (length s)) refl
  where
    go : (b : Bool) → ltb p (length s) ≡ b → p < length s
    go true t = ltb-true p (length s) t
    go false t =
        let k : length s ≤ p = ltb-false p (length s) t in
        let h : r ≡ s ++ drop p r = sym (take-append-drop p r) ∙ ap (λ l. l ++ drop p r) ((parted r s p x e).before ∙ take_all p s k) in
        let d : diff s r ≡ on (drop p r) = ap (diff s) h ∙ diff_head s (drop p r) in
        absurd (rw d at o)
