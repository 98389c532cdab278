-- The path grows by the bits that an answer to ANTICOLLISION gives. Assumes nothing.
use Rattle.std.specs.Prelude.{◌≡◌, ℕ, zero, suc, ◌+◌, ◌-◌, ◌*◌, ◌≤◌, ◌<◌, min, Bool, true, false, length, take, set, replicate, ltb}
use Rattle.std.proofs.Math.Path.{refl}
use Rattle.std.proofs.Common.{sym, ap, ap₂, ◌∙◌, not-suc-le-zero, true≢false, length-append, length-take, length-drop, length-set, take_all, ltb-true, ltb-false, arith}
use Rattle.std.proofs.Math.Nat.{min-le_right}
use Rattle.std.proofs.lemmas.Bool.{false≢true}
use mathlib.Core.List.{List, [], ◌∷◌, ◌++◌}
use Rattle.std.proofs.Math.ListN.{drop}
use Rattle.rows.specs.ListLaws.{is_nil_law}
use Rattle.rows.specs.Rows.{is_nil, fill, overlay}
use Rattle.rows.proofs.RowLaws.{overlay_next, overlay_all}
use Rattle.frame.specs.Frame.{air_bits}
use Rattle.frame.specs.ByteLaws.{length_air_bits}
use Rattle.uid.specs.FillLaws.{fill_zeros}
use Rattle.uid.specs.Uid.{place}
use Rattle.memory.specs.Memory.{keeping, marked, learnt}
use Rattle.memory.specs.Stored.{path_of, stored, is_collided, Marked}
use Rattle.memory.specs.declared.Path.{Path}
use Rattle.selection.specs.declared.Rest.{Rest}
use Rattle.selection.specs.declared.RestSays.{RestSays}
use Rattle.selection.specs.declared.RestSays.TheVariants.{Whole, Collided, NotRest}
use Rattle.uid.specs.declared.Level.{Level}
use Rattle.reader.specs.declared.Reader.{Reader}
use Rattle.reader.specs.StepLaws.{drop_take}
use Rattle.memory.specs.EnterLaws.{take_least}

pub made_joined : (p : Path) (n m : ℕ) (s out₁ out : List ℕ) → length p.row ≡ 120 → p.known ≤ 120 → m ≡ min n p.known → m + length s ≤ 120
    → out₁ ≡ overlay (replicate 120 0) 0 (take m p.row) → out ≡ overlay out₁ m s
    → ◌≡◌ {A = Path} (record { row = out; known = m + length s }) (stored (take n (path_of p) ++ s))
unfolding stored path_of
made_joined p n m s out₁ out h k e l q₁ q =
    let t : take n (take p.known p.row) ≡ take m p.row = take_least n p.known p.row ∙ ap (λ i. take i p.row) (sym e) in
    let d : length (take m p.row) ≡ m = rw length-take (omega (arith, e, min-le_right n p.known)) in
    let z : m ≡ 0 + length (take m p.row) = omega (arith, d) in
    let o : out ≡ overlay (replicate 120 0) 0 (take m p.row ++ s) =
    q ∙ ap (λ (i : ℕ). overlay out₁ i s) z ∙ rw q₁ (overlay_next (replicate 120 0) 0 (take m p.row) s (omega (arith, d))) in
    ap₂ (λ (r : List ℕ) (i : ℕ). record { row = r; known = i })
    (o ∙ fill_zeros 120 (take m p.row ++ s) ∙ ap (λ w. fill 120 (w ++ s)) (sym t)) (rw (length-append, t, d))

-- the last of some bits becomes a 2
keeping_take : (top : ℕ) (A : List ℕ) → 1 ≤ top → top ≤ length A → take top (set A (top - 1) 2) ≡ keeping (take top A)
unfolding keeping is_nil
keeping_take zero A h k = absurd (not-suc-le-zero h)
keeping_take (suc top) [] h k = absurd (not-suc-le-zero k)
keeping_take (suc zero) (a ∷ A) h k = refl
keeping_take (suc (suc top)) (a ∷ []) h k = absurd (omega arith)
keeping_take (suc (suc top)) (a ∷ b ∷ A) h k =
    let e : suc (suc top) - 1 ≡ suc (suc top - 1) = omega arith in
    rw e (ap (λ l. a ∷ l) (keeping_take (suc top) (b ∷ A) (omega arith) (omega arith)))

keeping_drop : (k : ℕ) (D : List ℕ) → k < length D → drop k (keeping D) ≡ keeping (drop k D)
unfolding keeping is_nil
keeping_drop zero D h = refl
keeping_drop (suc k) [] h = absurd (not-suc-le-zero h)
keeping_drop (suc k) (x ∷ []) h = absurd (omega arith)
keeping_drop (suc k) (x ∷ y ∷ D) h = keeping_drop k (y ∷ D) (omega arith)

module _ (x : Rest) (top : ℕ) (d : List ℕ) (h : top ≤ 40) (five : length x.five ≡ 5) where
  long_bits : length (air_bits x.five) ≡ 40
  long_bits = rw (length_air_bits, five)

  pub marked_plain : is_collided x.says ≡ false → d ≡ overlay (replicate 40 0) 0 (air_bits x.five) → Marked x top d
  marked_plain s q =
      let e : d ≡ air_bits x.five = q ∙ overlay_all (replicate 40 0) (air_bits x.five) (sym long_bits) in
      record { long = rw (e, long_bits); five = five; is = λ k l. rw e (sym (plainly x.says (drop k (take top (air_bits x.five))) s)) }
    where
      plainly : (s : RestSays) (D : List ℕ) → is_collided s ≡ false → marked s D ≡ D
      plainly Whole D e = refl
      plainly Collided D e = absurd (true≢false e)
      plainly (NotRest r) D e = refl

  pub marked_last : is_collided x.says ≡ true → 1 ≤ top → (d₀ : List ℕ) → d₀ ≡ overlay (replicate 40 0) 0 (air_bits x.five) → d ≡ set d₀ (top - 1) 2 → Marked x top d
  marked_last s t d₀ q₀ q =
      let A : List ℕ = air_bits x.five in
      let e : d ≡ set A (top - 1) 2 = q ∙ ap (λ l. set l (top - 1) 2) (q₀ ∙ overlay_all (replicate 40 0) A (sym long_bits)) in
      record {
        long = rw (e, length-set) long_bits;
        five = five;
        is = λ k l. rw (e, keeping_take top A t (omega (arith, long_bits))) (keeping_drop k (take top A) (rw length-take (omega (arith, long_bits))) ∙ sym (kept x.says (drop k (take top A)) s));
      }
    where
      kept : (s : RestSays) (D : List ℕ) → is_collided s ≡ true → marked s D ≡ keeping D
      kept Whole D e = absurd (false≢true e)
      kept Collided D e = refl
      kept (NotRest r) D e = absurd (false≢true e)

pub marked_none : (x : Rest) (top : ℕ) (d : List ℕ) → length x.five ≡ 5 → top ≡ 0 → d ≡ overlay (replicate 40 0) 0 (air_bits x.five) → Marked x top d
marked_none x top d five z q =
    let n : length (air_bits x.five) ≡ 40 = long_bits x top d (omega arith) five in
    record { long = ap length (q ∙ overlay_all (replicate 40 0) (air_bits x.five) (sym n)) ∙ n; five = five; is = λ k l. absurd (omega arith) }

-- what is learnt, where some of the bits are new, and where none is
module _ (l : Level) (r : Reader) (x : Rest) (p q : Path) (n top : ℕ) (d : List ℕ) (en : n ≡ 40 * place l + r.known) (e : top ≡ min x.known 40) (m : Marked x top d) where
  known_is : take x.known (air_bits x.five) ≡ take top (air_bits x.five)
  known_is =
      let A : List ℕ = air_bits x.five in
      ap (take x.known) (sym (take_all 40 A (omega (arith, length_air_bits x.five, m.five)))) ∙ take_least x.known 40 A ∙ ap (λ i. take i A) (sym e)

  nothing : (s : RestSays) → marked s [] ≡ []
  unfolding keeping
  nothing Whole = refl
  nothing Collided = refl
  nothing (NotRest e) = refl

  -- d's bits from the smaller of k and top on
  pub made_learns : (i : ℕ) → i ≡ min r.known top → q ≡ stored (take n (path_of p) ++ take (top - i) (drop i d)) → q ≡ stored (take (40 * place l + r.known) (path_of p) ++ learnt r x)
  unfolding learnt
  made_learns i is o = go (ltb r.known top) refl
    where
      go : (b : Bool) → ltb r.known top ≡ b → q ≡ stored (take (40 * place l + r.known) (path_of p) ++ marked x.says (drop r.known (take x.known (air_bits x.five))))
      go true b =
          let h : r.known < top = ltb-true r.known top b in
          let z : i ≡ r.known = omega (arith, is, h) in
          rw (known_is, ← m.is r.known h, drop_take r.known top d, ← en) (rw z at o)
      go false b =
          let h : top ≤ r.known = ltb-false r.known top b in
          let z : top - i ≡ 0 = omega (arith, is, h) in
          let none : drop r.known (take top (air_bits x.five)) ≡ [] = is_nil_law (drop r.known (take top (air_bits x.five))) (rw (length-drop, length-take) (omega arith)) in
          rw (known_is, none, nothing x.says, ← en) (rw z at o)
