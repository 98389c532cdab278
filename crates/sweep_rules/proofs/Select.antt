-- A selection comes to one card, before which no other comes. Assumes nothing.
use mathlib.Core.Path.{◌≡◌, refl}
use Prim.Native.Nat.{ℕ, zero, suc, ◌+◌, ◌*◌, ◌≤◌}
use native.Mathlib.Nat.{not-suc-le-zero}
use mathlib.Core.Bool.{Bool, true, false, cond, false≢true, true≢false}
use mathlib.Core.List.{List, [], ◌∷◌, ◌++◌}
use lib.ListN.{length, length-append}
use native.Mathlib.Omega.{arith}
use Rattle.rows.specs.EachLaws.{bits_right, all_weaken, all_zip}
use Rattle.rows.specs.Rows.{any, All, is_nil}
use Rattle.uid.specs.LevelLaws.{wide, InLevels}
use Rattle.uid.specs.Order.{Diff, on, off, diff, parts}
use Rattle.uid.specs.OrderLaws.{Off, diff_on, off_under}
use Rattle.sweep_rules.proofs.Abstract.{keep, strips, Top, level, select, levels, Apart}
use Rattle.sweep_rules.proofs.First.{strips_append, parts_append}
use Rattle.sweep_rules.proofs.Level.{all_strips, top_append, Level, level_holds}

-- ---- rows that are apart stay so when a common head goes

pub apart_strips : (P : List ℕ) (S : List (List ℕ)) → Apart S → Apart (strips P S)
unfolding strips keep
apart_strips P [] h = tt
apart_strips P (r ∷ S) h = go (diff P r) refl (apart_strips P S h.1)
  where
    go : (D : Diff) → diff P r ≡ D → Apart (strips P S) → Apart (keep D (strips P S))
    go (on t) e ih = (
      all_strips (λ s. Off (diff r s) × Off (diff s r)) (λ u. Off (diff t u) × Off (diff u t)) P S
          (λ u o. let e' : r ≡ P ++ t = diff_on P r t e in
          (off_under P t u (rw e' at o.0), off_under P u t (rw e' at o.1))) h.0,
      ih,
    )
    go (off p x) e ih = ih

-- ---- a row that is used up is the only one left

no_nil : (r : List ℕ) (S : List (List ℕ)) → All (λ s. Off (diff r s) × Off (diff s r)) S → any is_nil S ≡ true → ⊥
unfolding any is_nil diff
no_nil r [] h e = false≢true e
no_nil r ([] ∷ S) h e = h.0.1
no_nil r ((x ∷ s) ∷ S) h e = no_nil r S h.1 e

pub ended : (T : List (List ℕ)) → Apart T → any is_nil T ≡ true → T ≡ [] ∷ []
unfolding any is_nil diff
ended [] h e = absurd (false≢true e)
ended ([] ∷ []) h e = refl
ended ([] ∷ s ∷ S) h e = absurd h.0.0.0
ended ((x ∷ r) ∷ S) h e = absurd (no_nil (x ∷ r) S h.0 e)

open_ended : (T : List (List ℕ)) → any is_nil T ≡ false → All (λ r. 1 ≤ length r) T
unfolding any is_nil
open_ended [] e = tt
open_ended ([] ∷ S) e = absurd (true≢false e)
open_ended ((x ∷ r) ∷ S) e = (omega arith, open_ended S e)

-- ---- a selection

pub record Selected (T : List (List ℕ)) (s : List ℕ × ℕ) : Type 0 where
  pub cost : s.1 ≡ 2 * levels s.0 + parts s.0 T
  pub top : Top s.0 T
  pub only : strips s.0 T ≡ [] ∷ []

pub whole_wide : (L : ℕ) (r : List ℕ) → InLevels L r → wide ≤ length r
unfolding wide
whole_wide L r w = omega (arith, w.one_level, w.levels_only)

whole_right : (L : ℕ) (Q t : List ℕ) → length Q ≡ wide → InLevels (suc L) (Q ++ t) → 1 ≤ length t → InLevels L t
unfolding wide
whole_right L Q t e w h = record {
  bits = bits_right Q t w.bits;
  one_level = h;
  levels_only = omega (arith, w.levels_only, length-append Q t);
  at_most = omega (arith, w.at_most, length-append Q t);
}

pub levels_append : (Q P : List ℕ) → length Q ≡ wide → levels (Q ++ P) ≡ suc (levels P)
unfolding levels wide
levels_append Q P e = rw length-append (omega arith)

pub levels_one : (Q : List ℕ) → length Q ≡ wide → levels Q ≡ 1
unfolding levels wide
levels_one Q e = rw e

-- what is left after a whole level, where none is used up
pub whole_next : (L : ℕ) (Q : List ℕ) (T : List (List ℕ)) → length Q ≡ wide → All (InLevels (suc L)) T → any is_nil (strips Q T) ≡ false → All (InLevels L) (strips Q T)
whole_next L Q T e w o =
    all_zip (strips Q T) (λ t f h. f h) (all_strips (InLevels (suc L)) (λ t. 1 ≤ length t → InLevels L t) Q T (λ t. whole_right L Q t e) w)
    (open_ended (strips Q T) o)

pub level_whole : (L : ℕ) (T : List (List ℕ)) → 1 ≤ length T → All (InLevels L) T → Level wide T (level wide wide T)
level_whole L T h w = level_holds wide wide T (omega arith) h (all_weaken T (whole_wide L) w) (all_weaken T (λ r x. x.bits) w)

pub select_holds : (L : ℕ) (T : List (List ℕ)) → 1 ≤ length T → All (InLevels L) T → Apart T → Selected T (select L T)
unfolding select
select_holds zero [] h w a = absurd (not-suc-le-zero h)
select_holds zero (r ∷ T) h w a = absurd (omega (arith, w.0.one_level, w.0.at_most))
select_holds (suc L) T h w a = go (any is_nil T') refl
    (λ e. select_holds L T' k.left (whole_next L q.0 T k.full w e) (apart_strips q.0 T a))
  where
    q : List ℕ × ℕ
    q = level wide wide T

    T' : List (List ℕ)
    T' = strips q.0 T

    k : Level wide T q
    k = level_whole (suc L) T h w

    go : (b : Bool) → any is_nil T' ≡ b → (any is_nil T' ≡ false → Selected T' (select L T'))
        → Selected T (cond b (q.0, 2 + q.1) (q.0 ++ (select L T').0, 2 + q.1 + (select L T').1))
    go true e ih = record {
      cost = rw (levels_one q.0 k.full) (omega (arith, k.cost));
      top = k.top;
      only = ended T' (apart_strips q.0 T a) e;
    }
    go false e ih = let i : Selected T' (select L T') = ih e in record {
      cost = rw (levels_append q.0 (select L T').0 k.full, parts_append) (omega (arith, k.cost, i.cost));
      top = top_append q.0 (select L T').0 T k.top i.top;
      only = rw strips_append i.only;
    }
