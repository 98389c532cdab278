-- The newest branch of a path, from the path's end. Assumes nothing.
use Rattle.std.specs.Prelude.{◌≡◌, Bool, length, get_or, replicate, ltb}
use Rattle.std.proofs.Math.Path.{refl, sym, ap, ap₂}
use Rattle.std.proofs.Common.{◌∙◌, not-suc-le-zero, length-append, take-suc, lt-ltb, le-ltb, ltb-true, ltb-false, arith}
use Prim.Native.Nat.{ℕ, zero, suc, ◌+◌, ◌-◌, ◌≤◌, ◌<◌}
use Rattle.std.proofs.Math.Bool.{true, false, cond}
use mathlib.Core.List.{List, [], ◌∷◌, ◌++◌, append_assoc}
use Rattle.std.proofs.Math.ListN.{take, length-take}
use Rattle.std.proofs.Math.Seq.{take-length, take-take}
use Rattle.rows.specs.ListLaws.{is_nil_law}
use Rattle.rows.specs.Rows.{clean, fill, overlay}
use Rattle.rows.proofs.RowLaws.{overlay_nil}
use Rattle.uid.specs.FillLaws.{fill_zeros}
use Rattle.memory.specs.Memory.{branch}
use Rattle.memory.specs.Stored.{path_of, stored, Branched}
use Rattle.memory.specs.declared.Path.{Path}

module _ (x : ℕ) where
  clean_snoc : (w : List ℕ) → x ≤ 1 → clean (w ++ x ∷ []) ≡ clean w
  unfolding clean
  clean_snoc [] h = rw (le-ltb 1 x h)
  clean_snoc (y ∷ w) h = ap (cond (ltb 1 y) false) (clean_snoc w h)

  collided_snoc : (w : List ℕ) → 1 < x → clean (w ++ x ∷ []) ≡ false
  unfolding clean
  collided_snoc [] h = rw (lt-ltb 1 x h)
  collided_snoc (y ∷ w) h = rw (collided_snoc w h) (both (ltb 1 y))
    where
      both : (b : Bool) → cond b false false ≡ false
      both true = refl
      both false = refl

  -- the last bit is a 2, or not
  branch_last : (w : List ℕ) → 1 < x → branch (w ++ x ∷ []) ≡ w ++ 0 ∷ []
  unfolding branch clean
  branch_last [] h = rw (lt-ltb 1 x h)
  branch_last (y ∷ w) h = rw (collided_snoc w h) (ap (λ l. y ∷ l) (branch_last w h))

  branch_before : (w : List ℕ) → x ≤ 1 → branch (w ++ x ∷ []) ≡ branch w
  unfolding branch clean
  branch_before [] h = rw (le-ltb 1 x h)
  branch_before (y ∷ w) h = rw (clean_snoc w h, branch_before w h)

module _ (row : List ℕ) (i : ℕ) (h : 1 ≤ i) (k : i ≤ length row) where
  last_one : take i row ≡ take (i - 1) row ++ get_or row (i - 1) 0 ∷ []
  last_one = let e : i ≡ suc (i - 1) = omega arith in ap (λ n. take n row) e ∙ take-suc row (i - 1) 0 (omega arith)

  branch_here : 1 < get_or row (i - 1) 0 → branch (take i row) ≡ take (i - 1) row ++ 0 ∷ []
  branch_here l = ap branch last_one ∙ branch_last (get_or row (i - 1) 0) (take (i - 1) row) l

  -- i bits, where the bits behind them in the path have no 2
  pub branched_here : (n : ℕ) → i ≤ n → branch (take i row) ≡ branch (take n row) → 1 < get_or row (i - 1) 0 → Branched row n i
  branched_here n m e l = record {
    long = rw (← e, branch_here l, length-append, length-take) (omega arith);
    within = m;
    is = λ z. sym e ∙ branch_here l;
  }

  pub branched_less : get_or row (i - 1) 0 ≤ 1 → branch (take i row) ≡ branch (take (i - 1) row)
  branched_less l = ap branch last_one ∙ branch_before (get_or row (i - 1) 0) (take (i - 1) row) l

pub branched_none : (row : List ℕ) (n i : ℕ) → i ≡ 0 → branch (take i row) ≡ branch (take n row) → Branched row n 0
unfolding branch
branched_none row n i z e = record { long = rw (← e, z); within = omega arith; is = λ h. absurd (not-suc-le-zero h) }

-- ---- by the place of the last 2

module _ (row : List ℕ) where
  -- the d bits from i on are none of them a 2
  settled : (i d : ℕ) → i + d ≤ length row → ((k : ℕ) → i ≤ k → k < i + d → get_or row k 0 ≤ 1) → branch (take (i + d) row) ≡ branch (take i row)
  settled i zero h c = let e : i + 0 ≡ i = omega arith in rw e
  settled i (suc d) h c =
      let e : i + suc d - 1 ≡ i + d = omega arith in
      branched_less row (i + suc d) (omega arith) h (c (i + suc d - 1) (omega arith) (omega arith))
      ∙ ap (λ n. branch (take n row)) e ∙ settled i d (omega arith) (λ k l m. c k l (omega arith))

  pub branched_at : (i : ℕ) → i < length row → 1 < get_or row i 0 → ((k : ℕ) → i < k → k < length row → get_or row k 0 ≤ 1) → Branched row (length row) (i + 1)
  branched_at i h l c =
      let e : i + 1 + (length row - (i + 1)) ≡ length row = omega arith in
      let z : i + 1 - 1 ≡ i = omega arith in
      branched_here row (i + 1) (omega arith) (omega arith) (length row) (omega arith)
      (sym (ap (λ n. branch (take n row)) (sym e) ∙ settled (i + 1) (length row - (i + 1)) (omega arith) (λ k a b. c k (omega arith) (omega arith)))) (rw z l)

  pub branched_nowhere : ((k : ℕ) → k < length row → get_or row k 0 ≤ 1) → Branched row (length row) 0
  branched_nowhere c =
      let e : 0 + length row ≡ length row = omega arith in
      branched_none row (length row) 0 refl (sym (ap (λ n. branch (take n row)) (sym e) ∙ settled 0 (length row) (omega arith) (λ k a b. c k (omega arith))))

-- the path is the first n places of its row
pub branched_path : (row : List ℕ) (n r : ℕ) → Branched (take n row) (length (take n row)) r → Branched row n r
branched_path row n r b =
    let e : take (length (take n row)) (take n row) ≡ take n row = take-length (take n row) in
    let h : r ≤ n = omega (arith, b.within, length-take n row) in
    record { long = b.long ∙ ap (λ l. length (branch l)) e; within = h; is = λ z. ap branch (sym e) ∙ b.is z ∙ ap (λ l. l ++ 0 ∷ []) (take-take (r - 1) n row (omega arith)) }

-- ---- in an array

fill_zero : (n : ℕ) (s : List ℕ) → length s < n → fill n (s ++ 0 ∷ []) ≡ fill n s
unfolding fill
fill_zero n s h =
    let e : n - length s ≡ suc (n - length (s ++ 0 ∷ [])) = rw length-append (omega arith) in
    append_assoc s (0 ∷ []) (replicate (n - length (s ++ 0 ∷ [])) 0) ∙ rw e

module _ (p : Path) (n : ℕ) (b : Branched p.row p.known n) where
  pub made_branch : (out : List ℕ) → 1 ≤ n → n ≤ 120 → out ≡ overlay (replicate 120 0) 0 (take (n - 1) p.row)
      → ◌≡◌ {A = Path} (record { row = out; known = n }) (stored (branch (path_of p)))
  unfolding stored path_of
  made_branch out h k q =
      let s : List ℕ = take (n - 1) p.row in
      ap₂ (λ (r : List ℕ) (m : ℕ). record { row = r; known = m })
      (q ∙ fill_zeros 120 s ∙ sym (fill_zero 120 s (rw length-take (omega arith))) ∙ ap (fill 120) (sym (b.is h))) b.long

  pub made_none : n ≡ 0 → ◌≡◌ {A = Path} (record { row = replicate 120 0; known = n }) (stored (branch (path_of p)))
  unfolding stored path_of fill
  made_none z = let e : branch (take p.known p.row) ≡ [] = is_nil_law (branch (take p.known p.row)) (omega (arith, b.long)) in rw (e, z)

  pub made_kept : (out : List ℕ) → n ≤ 120 → out ≡ overlay (replicate 120 0) 0 (take (n - 1) p.row) → ◌≡◌ {A = Path} (record { row = out; known = n }) (stored (branch (path_of p)))
  made_kept out k q = go (ltb 0 n) refl
    where
      go : (b : Bool) → ltb 0 n ≡ b → ◌≡◌ {A = Path} (record { row = out; known = n }) (stored (branch (path_of p)))
      go true e = made_branch out (ltb-true 0 n e) k q
      go false e =
          let z : n ≡ 0 = omega (arith, ltb-false 0 n e) in
          let y : n - 1 ≡ 0 = omega arith in
          let o : out ≡ replicate 120 0 = q ∙ rw y (overlay_nil (replicate 120 0) 0) in
          rw o (made_none z)
