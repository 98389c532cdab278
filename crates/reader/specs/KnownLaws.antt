-- T-03, one known card: what its definitions give at what was read, what its call says, and "b3 fits the UID" in T-04's words. Assumes nothing.
use Rattle.std.specs.Prelude.{◌≡◌, refl, ℕ, suc, ◌+◌, ◌≤◌, ◌<◌, Bool, true, false, cond, not, ◌&&◌, ◌||◌, List, [], ◌∷◌, length, get_or, eqb, ltb, Result, Ok, Err}
use Rattle.std.specs.Result.{result_unwrap_or}
use Rattle.std.proofs.Common.{sym, ap, ◌∙◌, add-one, arith}
use borrow.Author.Tests.{lt-ltb, le-ltb, ne_eqb}
use Rattle.refusal.specs.Refusal.{Said, giving, decline_if, refusal_says, made_says}
use Rattle.refusal.specs.declared.Refusal.{Refusal}
use Rattle.refusal.specs.declared.Refusal.TheVariants.{Room, Argument, Forbidden, NotDue}
use Rattle.uid.specs.Calls.{sized, uid_of, checked, new_uid, valid_bytes}
use Rattle.uid.specs.SaysLaws.{new_says_law}
use Rattle.uid.specs.Uid.{valid, levels, levels_of, level_count, place}
use Rattle.uid.specs.UidLaws.{Sound}
use Rattle.parity.specs.Bits.{bits_of}
use Rattle.frame.specs.Frame.{short}
use Rattle.selection.specs.Selection.{wupa}
use Rattle.selection.specs.Heard.{read_atqa, read_sak}
use Rattle.limits.specs.Limits.{frame_room}
use Rattle.reader.specs.Calls.{call, wake_made, wake_turn, wake_call, turn_says, wake_says}
use Rattle.reader.specs.Reader.{b3, contradicts, frame, turn, sends, stop, completes, wakes, pick_next, after_wupa, hear_wupa, misfits, uid_sak_heard, hear_uid_sak, is_new}
use Rattle.reader.specs.ReaderLaws.{lvl}
use Rattle.reader.specs.SakLevelLaws.{valid_fits}
use Rattle.uid.specs.declared.Level.{Level}
use Rattle.uid.specs.declared.Level.TheVariants.{One, Two, Three}
use Rattle.uid.specs.declared.Uid.{Uid}
use Rattle.uid.specs.declared.UidSize.{UidSize}
use Rattle.uid.specs.declared.UidSize.TheVariants.{Single, Double, Triple}
use Rattle.reader.specs.declared.Answer.TheVariants.{Declines}
use Rattle.reader.specs.declared.Reader.{Reader}
use Rattle.reader.specs.declared.Turn.{Turn}

-- ---- at what was read

pub wupa_at : (r : Reader) (h : List ℕ) (a : Result Unit Refusal) → read_atqa h ≡ a → hear_wupa r h ≡ after_wupa r.uid a
unfolding hear_wupa
wupa_at r h a e = ap (after_wupa r.uid) e

pub uid_sak_at : (l : Level) (r : Reader) (h : List ℕ) (a : Result ℕ Refusal) → read_sak h ≡ a → hear_uid_sak l r h ≡ uid_sak_heard l r.uid a
unfolding hear_uid_sak
uid_sak_at l r h a e = ap (uid_sak_heard l r.uid) e

module _ (l : Level) (u : Uid) (b : ℕ) where
  pub sak_misfits : misfits l u (b3 b) ≡ true → uid_sak_heard l u (Ok b) ≡ stop Forbidden
  sak_misfits e = rw e

  pub sak_onward : misfits l u (b3 b) ≡ false → b3 b ≡ true → uid_sak_heard l u (Ok b) ≡ pick_next l u
  sak_onward e f = rw (e, f)

  pub sak_ends : misfits l u (b3 b) ≡ false → b3 b ≡ false → uid_sak_heard l u (Ok b) ≡ completes false u b
  sak_ends e f = rw (e, f)

-- ---- "b3 fits the UID"

count_of : (z : UidSize) (b : List ℕ) → length (levels_of z b) ≡ level_count z
count_of Single b = refl
count_of Double b = refl
count_of Triple b = refl

pub count_levels : (u : Uid) → length (levels u) ≡ level_count u.size
unfolding levels
count_levels u = count_of u.size u.bytes

pub misfits_told : (l : Level) (u : Uid) (more v s : Bool) (p n : ℕ) → valid u ≡ v → p ≡ place l → n ≡ level_count u.size → ltb (p + 1) n ≡ s
    → (not v || cond s (not more) more) ≡ misfits l u more
unfolding misfits
misfits_told l u more v s p n e q k t = rw (e, count_levels u, ← k, ← q, ← add-one p, t)

-- at a level of a valid UID
pub fits_is : (l : Level) (u : Uid) (more : Bool) → valid u ≡ true → ltb (suc (place l)) (length (levels u)) ≡ more → misfits l u more ≡ false
unfolding misfits
fits_is l u more v e = rw (v, e) (go more)
  where
    go : (b : Bool) → cond b (not b) b ≡ false
    go true = refl
    go false = refl

-- .. b3 fits exactly where T-04's test and "b3 set at level 3" take it: either of the two values of b3 contradicts a level
one_of_two : (l : Level) (b : Bool) (first : ℕ) → place l < 2 → contradicts l b first ≡ false → contradicts l (not b) first ≡ true
unfolding contradicts
one_of_two l b first h e = rw (lt-ltb (place l) 2 h) (go b (eqb first 0x88) (rw (lt-ltb (place l) 2 h) at e))
  where
    go : (b x : Bool) → cond b (not x) x ≡ false → cond (not b) (not x) x ≡ true
    go true true e = refl
    go false false e = refl
    go true false e = sym e
    go false true e = sym e

low_level : (l : Level) (rem more : Bool) (first : ℕ) → place l < 2 → contradicts l rem first ≡ false
    → cond rem (not more) more ≡ (contradicts l more first || more && eqb (place l) 2)
low_level l rem more first h e = rw (ne_eqb (place l) 2 (omega arith)) (go rem more e (one_of_two l rem first h e))
  where
    go : (rem more : Bool) → contradicts l rem first ≡ false → contradicts l (not rem) first ≡ true → cond rem (not more) more ≡ (contradicts l more first || more && false)
    go true true e f = rw e
    go true false e f = rw f
    go false true e f = rw f
    go false false e f = rw e

third_level : (more x : Bool) → more ≡ (cond more x false || more && true)
third_level true true = refl
third_level true false = refl
third_level false x = refl

pub count_most : (z : UidSize) → level_count z ≤ 3
count_most Single = omega arith
count_most Double = omega arith
count_most Triple = omega arith

pub misfits_contradicts : (u : Uid) → Sound u → (l : Level) (more : Bool) → place l < length (levels u)
    → misfits l u more ≡ (contradicts l more (get_or (get_or (levels u) (place l) []) 0 0) || more && eqb (place l) 2)
unfolding misfits lvl
misfits_contradicts u s One more h = rw s.is_valid (low_level One _ more _ (omega arith) (valid_fits u s 0 h))
misfits_contradicts u s Two more h = rw s.is_valid (low_level Two _ more _ (omega arith) (valid_fits u s 1 h))
misfits_contradicts u s Three more h = unfold contradicts in
    rw (s.is_valid, le-ltb 3 (length (levels u)) (rw count_levels (count_most u.size))) (third_level more _)

-- ---- the call

-- a UID is made where its bytes are those of a valid one; else 6
made_argument : (l : List ℕ) (e : Refusal) → new_uid l ≡ Err e → e ≡ Argument
unfolding new_uid checked
made_argument l e = go (eqb (length l) 4) (eqb (length l) 7) (eqb (length l) 10) (valid (sized Single l)) (valid (sized Double l)) (valid (sized Triple l))
  where
    one : (u : Uid) (v : Bool) → cond v (Ok u) (Err Argument) ≡ Err e → e ≡ Argument
    one u true h = cc
    one u false h = cc

    go : (a b c x y z : Bool)
        → cond a (cond x (Ok (sized Single l)) (Err Argument)) (cond b (cond y (Ok (sized Double l)) (Err Argument)) (cond c (cond z (Ok (sized Triple l)) (Err Argument)) (Err Argument))) ≡ Err e
        → e ≡ Argument
    go true b c x y z h = one (sized Single l) x h
    go false true c x y z h = one (sized Double l) y h
    go false false true x y z h = one (sized Triple l) z h
    go false false false x y z h = cc

pub made_valid : (l : List ℕ) → new_uid l ≡ cond (valid_bytes l) (Ok (uid_of l)) (Err Argument)
made_valid l = go (new_uid l) (valid_bytes l) (new_says_law l) (made_argument l)
  where
    go : (m : Result Uid Refusal) (v : Bool) → made_says m ≡ decline_if (not v) 6 (giving []) → ((e : Refusal) → m ≡ Err e → e ≡ Argument)
        → m ≡ cond v (Ok (result_unwrap_or m (sized Single []))) (Err Argument)
    go (Ok u) true h a = refl
    go (Ok u) false h a = absurd (omega (arith, ap (λ (s : Said). s.number) h))
    go (Err e) true h a = absurd (omega (arith, ap (λ (s : Said). s.number) (ap refusal_says (sym (a e refl)) ∙ h)))
    go (Err e) false h a = ap Err (a e refl)

pub wake_turn_says : (r : Reader) (l : List ℕ) → turn_says (wake_turn r l) ≡ decline_if (not (valid_bytes l)) 6 (turn_says (wakes (uid_of l)))
unfolding wake_turn
wake_turn_says r l = ap (λ m. turn_says (wake_made r m)) (made_valid l) ∙ go (valid_bytes l)
  where
    go : (v : Bool) → turn_says (wake_made r (cond v (Ok (uid_of l)) (Err Argument))) ≡ decline_if (not v) 6 (turn_says (wakes (uid_of l)))
    go true = refl
    go false = refl

-- WUPA has seven bits
pub wakes_seven : (u : Uid) → turn_says (wakes u) ≡ giving (7 ∷ [])
unfolding sends frame wupa short bits_of
wakes_seven u = refl

pub wake_says_law : (r : Reader) (l : List ℕ) (room : ℕ) (t : Turn) → t ≡ wake_call r l room → turn_says t ≡ wake_says r l room
unfolding wake_call call
wake_says_law r l room t e =
    ap turn_says e ∙ go (is_new r.phase) (ltb room frame_room) _ _ (wake_turn_says r l)
  where
    go : (b k : Bool) (u : Turn) (s : Said) → turn_says u ≡ s
        → turn_says (cond (not b) (turn r (Declines NotDue)) (cond k (turn r (Declines Room)) u)) ≡ decline_if (not b) 11 (decline_if k 1 s)
    go true true u s h = refl
    go true false u s h = h
    go false k u s h = refl
