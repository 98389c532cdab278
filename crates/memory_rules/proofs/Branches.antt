-- The newest branch of a path over rows alone: the rows of cards that begin with it, and none comes before it. Assumes nothing.
use mathlib.Core.Path.{◌≡◌, refl, sym, ap, ◌∙◌}
use Prim.Native.Nat.{ℕ, zero, suc, ◌≤◌, ◌<◌}
use native.Mathlib.Nat.{not-suc-le-zero}
use mathlib.Core.Bool.{Bool, true, false, cond, ◌||◌, true≢false, false≢true}
use mathlib.Core.Option.{Option, none, some}
use mathlib.Core.List.{List, [], ◌∷◌, ◌++◌, cons≢nil}
use lib.ListN.{length, length-map}
use lib.Dec.{ltb}
use native.Mathlib.Omega.{arith}
use Rattle.rows.specs.CleanLaws.{bits_clean, eqb_same}
use Rattle.rows.specs.Rows.{clean, any, All, Bits}
use Rattle.uid.specs.Order.{off, later, diff}
use Rattle.uid.specs.OrderLaws.{lead, off_under, Off}
use Rattle.memory.specs.Memory.{bits, branch}
use Rattle.sweep_rules.proofs.Abstract.{strips, Top}
use Rattle.sweep_rules.proofs.First.{put, pull, out, miss, strips_nil, strips_cons}
use Rattle.sweep_rules.proofs.Level.{all_strips}
use Rattle.sweep_rules.proofs.Step.{top_nil, top_cons, pull_all}
use Rattle.memory_rules.proofs.Marks.{marks, marks_none, top_uncons, mark_bit}

pub record Branch (P : List ℕ) (S : List (List ℕ)) (b : List ℕ) : Type 0 where
  pub place : ℕ
  pub long : length b ≡ suc place
  pub marked : b ≡ marks (bits b) S
  pub top : Top (bits b) S
  pub left : 1 ≤ length (strips (bits b) S)
  pub parted : (t : List ℕ) → diff P (bits b ++ t) ≡ off place 1

branch_clean : (w : List ℕ) → clean w ≡ true → branch w ≡ []
unfolding clean branch
branch_clean [] e = refl
branch_clean (x ∷ w) e = go (ltb 1 x) e
  where
    go : (c : Bool) → cond c false (clean w) ≡ true → cond (clean w) (cond c (0 ∷ []) []) (x ∷ branch w) ≡ []
    go true e = absurd (false≢true e)
    go false e = rw e

-- where no row goes on with x all miss it; where none goes on with 1 all go on with 0
none_goes : (x : ℕ) (S : List (List ℕ)) → 1 ≤ length S → pull x S ≡ [] → miss x S ≡ true
unfolding miss any pull put out
none_goes x [] h e = absurd (not-suc-le-zero h)
none_goes x (r ∷ S) h e = go (lead x r) e
  where
    go : (o : Option (List ℕ)) → put o (pull x S) ≡ [] → (out o || miss x S) ≡ true
    go (some t) e = absurd (cons≢nil e)
    go none e = refl

all_zero : (S : List (List ℕ)) → All Bits S → All (λ s. 1 ≤ length s) S → pull 1 S ≡ [] → miss 0 S ≡ false
unfolding miss any pull put out lead
all_zero [] b h e = refl
all_zero ([] ∷ S) b h e = absurd (not-suc-le-zero h.0)
all_zero ((zero ∷ s) ∷ S) b h e = all_zero S b.1 h.1 e
all_zero ((suc zero ∷ s) ∷ S) b h e = absurd (cons≢nil e)
all_zero ((suc (suc x) ∷ s) ∷ S) b h e = absurd (omega (arith, b.0.0))

pub all_pull : (F G : List ℕ → Type 0) (x : ℕ) (S : List (List ℕ)) → ((t : List ℕ) → F (x ∷ t) → G t) → All F S → All G (pull x S)
all_pull F G x S g h = rw (strips_cons, strips_nil) at (all_strips F G (x ∷ []) S g h)

not_heads : (x : ℕ) (P : List ℕ) (S : List (List ℕ)) → All (λ s. Off (diff s (x ∷ P))) S → All (λ s. 1 ≤ length s) S
unfolding diff
not_heads x P [] h = tt
not_heads x P ([] ∷ S) h = absurd h.0
not_heads x P ((y ∷ s) ∷ S) h = (omega arith, not_heads x P S h.1)

-- the last 2 is here
branch_here : (x : ℕ) (P : List ℕ) (S : List (List ℕ)) → Bits (x ∷ P) → 1 ≤ length S → All Bits S → All (λ s. Off (diff s (x ∷ P))) S → Top (x ∷ P) S → pull x S ≡ []
    → Branch (x ∷ P) S (branch (marks (x ∷ P) S))
unfolding marks branch bits diff
branch_here x P S b h bS o t e =
    let m : miss x S ≡ true = none_goes x S h e in
    let x≡1 : x ≡ 1 = (top_uncons x P S t).0 m in
    let z : miss 0 S ≡ false = all_zero S bS (not_heads x P S o) (rw x≡1 at e) in
    rw (e, marks_none P, bits_clean P b.1, m, x≡1) (record {
      place = 0;
      long = refl;
      marked = rw z;
      top = top_cons 0 [] S (λ e'. absurd (true≢false (sym e' ∙ z))) (top_nil (pull 0 S));
      left = rw (strips_cons, strips_nil, pull_all 0 S z, length-map) h;
      parted = λ t. refl;
    })

-- .. or further on
bits_cons : (x : ℕ) (m : Bool) (b : List ℕ) → x < 2 → (m ≡ true → x ≡ 1) → bits (cond m 2 x ∷ b) ≡ x ∷ bits b
unfolding bits
bits_cons x m b h t = ap (λ z. z ∷ bits b) (mark_bit x m h t)

branch_cons : (x : ℕ) (P : List ℕ) (S : List (List ℕ)) (b : List ℕ) → x < 2 → Top (x ∷ P) S → Branch P (pull x S) b → Branch (x ∷ P) S (cond (miss x S) 2 x ∷ b)
unfolding marks diff later
branch_cons x P S b hx t i =
    let u : (miss x S ≡ true → x ≡ 1) × Top P (pull x S) = top_uncons x P S t in
    let e : bits (cond (miss x S) 2 x ∷ b) ≡ x ∷ bits b = bits_cons x (miss x S) b hx u.0 in
    record {
      place = suc i.place;
      long = ap suc i.long;
      marked = ap (λ l. cond (miss x S) 2 x ∷ l) i.marked ∙ ap (λ l. marks l S) (sym e);
      top = rw e (top_cons x (bits b) S u.0 i.top);
      left = rw (e, strips_cons) i.left;
      parted = λ t. rw (e, eqb_same, i.parted t);
    }

branch_later : (x : ℕ) (P : List ℕ) (S : List (List ℕ)) → x < 2 → Top (x ∷ P) S → Branch P (pull x S) (branch (marks P (pull x S)))
    → Branch (x ∷ P) S (branch (marks (x ∷ P) S))
unfolding marks branch
branch_later x P S hx t i = go (clean w) refl (branch_cons x P S (branch w) hx t i)
  where
    w : List ℕ
    w = marks P (pull x S)

    y : ℕ
    y = cond (miss x S) 2 x

    go : (c : Bool) → clean w ≡ c → Branch (x ∷ P) S (y ∷ branch w) → Branch (x ∷ P) S (cond c (cond (ltb 1 y) (0 ∷ []) []) (y ∷ branch w))
    go true c h = absurd (omega (arith, i.long, ap length (branch_clean w c)))
    go false c h = h

pub branch_holds : (P : List ℕ) (S : List (List ℕ)) → Bits P → 1 ≤ length S → All Bits S → All (λ s. Off (diff s P)) S → Top P S → strips P S ≡ [] → Branch P S (branch (marks P S))
branch_holds [] S b h bS o t e = absurd (not-suc-le-zero (rw (rw strips_nil at e) at h))
branch_holds (x ∷ P) S b h bS o t e = go (pull x S) refl
    (λ h'. branch_holds P (pull x S) b.1 h' (all_pull Bits Bits x S (λ t k. k.1) bS)
    (all_pull (λ s. Off (diff s (x ∷ P))) (λ s. Off (diff s P)) x S (λ t k. off_under (x ∷ []) t P k) o) (top_uncons x P S t).1 (rw strips_cons at e))
  where
    go : (T : List (List ℕ)) → pull x S ≡ T → (1 ≤ length (pull x S) → Branch P (pull x S) (branch (marks P (pull x S)))) → Branch (x ∷ P) S (branch (marks (x ∷ P) S))
    go [] q ih = branch_here x P S b h bS o t q
    go (r ∷ T) q ih = branch_later x P S b.0 t (ih (rw q (omega arith)))
