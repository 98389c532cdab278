-- The whole levels that two UIDs share, by the first difference of their rows, and so the sum over UIDs. Assumes nothing.
use mathlib.Core.Path.{◌≡◌, refl, sym, ap, ap₂, ◌∙◌}
use mathlib.Core.Logic.{◌≢◌}
use Prim.Native.Nat.{ℕ, suc, ◌+◌, ◌/◌, ◌≤◌}
use native.Mathlib.Nat.{suc-add}
use mathlib.Core.Bool.{Bool, true, false, cond, false≢true}
use mathlib.Core.List.{List, [], ◌∷◌, ◌++◌, map}
use lib.ListN.{length, take}
use lib.Seq.{take-take, take_at}
use lib.Dec.{ltb}
use borrow.Author.Tests.{ltb-true, ltb-false}
use native.Mathlib.Omega.{arith}
use Rattle.rows.specs.CleanLaws.{eqb_same}
use Rattle.rows.specs.ListLaws.{same_sound, same_eq}
use Rattle.rows.specs.Rows.{All, same}
use Rattle.frame.specs.ByteLaws.{length_air_bits, bytes_bits}
use Rattle.frame.specs.Frame.{air_bits, bytes_of}
use Rattle.uid.specs.CheckLaws.{Five}
use Rattle.uid.specs.LevelLaws.{wide}
use Rattle.uid.specs.Order.{Diff, on, off, later, diff, is_up, above}
use Rattle.uid.specs.OrderLaws.{Off, off_under, parted}
use Rattle.uid.specs.Uid.{air, levels, row_of}
use Rattle.uid.specs.UidLaws.{Sound, fives, length_row}
use Rattle.sweep_rules.proofs.Abstract
use Rattle.sweep_rules.proofs.Abstract.{Falling}
use Rattle.memory_rules.specs.Count.{shared, shared_levels, new_collisions, term, add_up, recall_sum}
use Rattle.memory_rules.proofs.Sweeps.{shared_at, frames_after, frames_first}
use Rattle.uid.specs.declared.Uid.{Uid}

-- ---- a common head

diff_under : (A r s : List ℕ) (p x : ℕ) → diff r s ≡ off p x → diff (A ++ r) (A ++ s) ≡ off (length A + p) x
unfolding diff later
diff_under [] r s p x e = let n : 0 + p ≡ p = omega arith in rw n e
diff_under (y ∷ A) r s p x e = rw (eqb_same, diff_under A r s p x e, suc-add (length A) p)

shared_next : (A r s : List ℕ) → length A ≡ wide → Off (diff r s) → shared_at (diff (A ++ r) (A ++ s)) ≡ suc (shared_at (diff r s))
unfolding shared_at wide
shared_next A r s h o = go (diff r s) refl o
  where
    go : (D : Diff) → diff r s ≡ D → Off D → shared_at (diff (A ++ r) (A ++ s)) ≡ suc (shared_at D)
    go (on t) e o = absurd o
    go (off p x) e o = rw (diff_under A r s p x e) (omega arith)

-- .. and none
shared_none : (A C r s : List ℕ) → length A ≡ wide → length C ≡ wide → A ≢ C → shared_at (diff (A ++ r) (C ++ s)) ≡ 0
unfolding shared_at
shared_none A C r s h k n = go (diff (A ++ r) (C ++ s)) refl
  where
    early : (p x : ℕ) → diff (A ++ r) (C ++ s) ≡ off p x → (b : Bool) → ltb p wide ≡ b → p / wide ≡ 0
    early p x e true t = unfold wide in omega (arith, ltb-true p 40 (unfold wide in t))
    early p x e false t =
        let m : wide ≤ p = ltb-false p wide t in
        let q : take wide (A ++ r) ≡ take wide (C ++ s) =
        sym (take-take wide p (A ++ r) m) ∙ ap (take wide) (parted (A ++ r) (C ++ s) p x e).before ∙ take-take wide p (C ++ s) m in
        absurd (n (sym (take_at A r wide h) ∙ q ∙ take_at C s wide k))

    go : (D : Diff) → diff (A ++ r) (C ++ s) ≡ D → shared_at D ≡ 0
    go (on t) e = refl
    go (off p x) e = early p x e (ltb p wide) refl

five_wide : (l : List ℕ) → Five l → length (air_bits l) ≡ wide
unfolding wide
five_wide l f = rw (length_air_bits, f.full)

five_same : (l m : List ℕ) → Five l → Five m → air_bits l ≡ air_bits m → l ≡ m
five_same l m f g e =
    sym (bytes_bits l f.fits) ∙ ap₂ bytes_of (f.full ∙ sym g.full) e ∙ bytes_bits m g.fits

shared_end : (P : List ℕ) → shared_at (diff P []) ≡ 0
unfolding shared_at diff wide
shared_end [] = refl
shared_end (x ∷ P) = refl

shared_rows : (ls ms : List (List ℕ)) → All Five ls → All Five ms → Off (diff (air (map air_bits ls)) (air (map air_bits ms)))
    → shared ls ms ≡ shared_at (diff (air (map air_bits ls)) (air (map air_bits ms)))
unfolding air shared
shared_rows [] ms f g o = absurd (unfold diff in o)
shared_rows (l ∷ ls) [] f g o = sym (shared_end (air_bits l ++ air (map air_bits ls)))
shared_rows (l ∷ ls) (m ∷ ms) f g o = go (same l m) refl
    (λ k. shared_rows ls ms f.1 g.1 k)
  where
    A : List ℕ
    A = air_bits l

    r : List ℕ
    r = air (map air_bits ls)

    s : List ℕ
    s = air (map air_bits ms)

    go : (b : Bool) → same l m ≡ b → (Off (diff r s) → shared ls ms ≡ shared_at (diff r s)) → cond b (suc (shared ls ms)) 0 ≡ shared_at (diff (A ++ r) (air_bits m ++ s))
    go true e ih =
        let q : l ≡ m = same_sound l m e in
        let o' : Off (diff r s) = off_under A r s (rw (← q) at o) in
        rw (← q, shared_next A r s (five_wide l f.0) o') (ap suc (ih o'))
    go false e ih = sym (shared_none A (air_bits m) r s (five_wide l f.0) (five_wide m g.0) (λ q. false≢true (sym e ∙ same_eq l m (five_same l m f.0 g.0 q))))

-- ---- the sum

above_off : (r s : List ℕ) → above r s ≡ true → Off (diff r s)
unfolding above
above_off r s e = go (diff r s) e
  where
    go : (D : Diff) → is_up D ≡ true → Off D
    go (on t) e = absurd (false≢true (unfold is_up in e))
    go (off p x) e = tt

uid_fives : (u : Uid) → Sound u → All Five (levels u)
unfolding levels
uid_fives u s = fives u.bytes s.ten s.bytes u.size

shared_is : (v u : Uid) → Sound v → Sound u → above (row_of v) (row_of u) ≡ true → shared_at (diff (row_of v) (row_of u)) ≡ shared (levels v) (levels u)
unfolding row_of
shared_is v u s t e = sym (shared_rows (levels v) (levels u) (uid_fives v s) (uid_fives u t) (above_off (row_of v) (row_of u) e))

levels_is : (u : Uid) → Sound u → Abstract.levels (row_of u) ≡ length (levels u)
unfolding Abstract.levels wide
levels_is u s = rw (length_row u s) (omega arith)

sum_after : (v : Uid) (us : List Uid) → Sound v → All Sound us → Falling (map row_of (v ∷ us)) → frames_after (row_of v) (map row_of us) ≡ 1 + add_up term v us
unfolding frames_after add_up term shared_levels new_collisions
sum_after v [] s t d = refl
sum_after v (u ∷ us) s t d = rw (levels_is u t.0, shared_is v u s t.0 d.0.0, sum_after u us t.0 t.1 d.1) (omega arith)

pub sum_first : (us : List Uid) → All Sound us → Falling (map row_of us) → frames_first (map row_of us) ≡ recall_sum us
unfolding frames_first recall_sum
sum_first [] t d = refl
sum_first (u ∷ us) t d = rw (levels_is u t.0, sum_after u us t.0 t.1 d) (omega arith)
