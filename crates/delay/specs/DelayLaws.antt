-- T-09, the judge's rounding: "the nearest n*128 + 84 after a 1, or n*128 + 20 after a 0, with n at least 9, ties to the smaller n"; "early below zero
-- and late above it". d is the delay, `off_by` how far it is from due. Both ends of what can be answered are stated. Assumes nothing.
use Rattle.std.specs.Prelude.{◌≡◌, ℕ, suc, ◌+◌, ◌-◌, ◌<◌, ◌≤◌, Bool, true, false, pos, negsuc, ◌-ℤ◌, ◌≤ℤ◌, unsigned_abs}
use Rattle.std.proofs.Math.Path.{refl, sym, ap}
use Rattle.std.proofs.Common.{◌∙◌, arith}
use Rattle.delay.specs.declared.Kind.{Kind}
use Rattle.delay.specs.declared.Kind.TheVariants.{Reqa, Wupa, Anticollision, Select, Other}
use Rattle.delay.specs.Delay.{grid, point, nearest, fixed, due}
use Rattle.delay.specs.Calls.{off_by}
use Rattle.delay.specs.OffLaws.{late, early, apart, apart_is, zero_same, at_least, at_most}

-- the fixed delays are the first points of the grid
pub first_point : (one : Bool) → fixed one ≡ point one 9
first_point true = refl
first_point false = refl

module _ (one : Bool) where
  small : grid one ≤ 84
  small = go one
    where
      go : (b : Bool) → grid b ≤ 84
      go true = omega arith
      go false = omega arith

  -- n is at least 9
  pub least_nine : (d : ℕ) → 9 ≤ nearest one d
  least_nine d = omega arith

  -- ---- 0 exactly on the grid

  pub zero_on_grid : (n : ℕ) → 9 ≤ n → off_by Other one (point one n) ≡ pos 0
  unfolding off_by
  zero_on_grid n h =
      let e : point one (nearest one (point one n)) ≡ point one n = omega (arith, small) in
      rw e (late (point one n) (point one n) (omega arith) ∙ ap pos (omega arith))

  pub on_grid : (d : ℕ) → off_by Other one d ≡ pos 0 → d ≡ point one (nearest one d)
  unfolding off_by
  on_grid d e = zero_same d (point one (nearest one d)) e

  -- ---- the nearest

  -- no point is nearer ..
  pub no_nearer : (d n : ℕ) → 9 ≤ n → unsigned_abs (off_by Other one d) ≤ unsigned_abs (pos d -ℤ pos (point one n))
  unfolding off_by
  no_nearer d n h = rw (apart_is d (point one (nearest one d)), apart_is d (point one n)) (omega (arith, small))

  -- .. and where two are as near, n is the smaller one's
  pub tie_smaller : (d n : ℕ) → 9 ≤ n → unsigned_abs (off_by Other one d) ≡ unsigned_abs (pos d -ℤ pos (point one n)) → nearest one d ≤ n
  unfolding off_by
  tie_smaller d n h e =
      let q : apart d (point one (nearest one d)) ≡ apart d (point one n) = sym (apart_is d (point one (nearest one d))) ∙ e ∙ apart_is d (point one n) in
      omega (arith, small)

  -- ---- both ends

  -- from the first point on: -63 to 64
  pub past_first : (d : ℕ) → point one 9 ≤ d → (negsuc 62 ≤ℤ off_by Other one d) × (off_by Other one d ≤ℤ pos 64)
  unfolding off_by
  past_first d h =
      let p : ℕ = point one (nearest one d) in
      (at_least d p 62 (omega (arith, small)), at_most d p 64 (omega (arith, small)))

  -- .. and both are met behind every point
  pub most_late : (n : ℕ) → 9 ≤ n → off_by Other one (point one n + 64) ≡ pos 64
  unfolding off_by
  most_late n h =
      let e : point one (nearest one (point one n + 64)) ≡ point one n = omega (arith, small) in
      rw e (late (point one n + 64) (point one n) (omega arith) ∙ ap pos (omega arith))

  pub most_early : (n : ℕ) → 9 ≤ n → off_by Other one (point one n + 65) ≡ negsuc 62
  unfolding off_by
  most_early n h =
      let e : point one (nearest one (point one n + 65)) ≡ point one n + 128 = omega (arith, small) in
      rw e (early (point one n + 65) (point one n + 128) (omega arith) ∙ ap negsuc (omega arith))

  -- ahead of the first point the answer is early by all that lacks, every kind of frame alike
  pub ahead_first : (k : Kind) (d : ℕ) → d < point one 9 → off_by k one d ≡ negsuc (point one 9 - suc d)
  unfolding off_by
  ahead_first k d h = go k
    where
      from : (at : ℕ) → at ≡ point one 9 → pos d -ℤ pos at ≡ negsuc (point one 9 - suc d)
      from at e = rw e (early d (point one 9) h)

      go : (k : Kind) → pos d -ℤ pos (due k one d) ≡ negsuc (point one 9 - suc d)
      go Reqa = from (fixed one) (first_point one)
      go Wupa = from (fixed one) (first_point one)
      go Anticollision = from (fixed one) (first_point one)
      go Select = from (fixed one) (first_point one)
      go Other = from (point one (nearest one d)) (omega (arith, small))

-- .. so at delay 0 by 1236 or 1172
pub least_after_one : (k : Kind) → off_by k true 0 ≡ negsuc 1235
least_after_one k = ahead_first true k 0 (omega arith)

pub least_after_zero : (k : Kind) → off_by k false 0 ≡ negsuc 1171
least_after_zero k = ahead_first false k 0 (omega arith)

-- the frames with one due delay
abbrev pub Fixed : Kind → Type 0
Fixed Reqa = Unit {0}
Fixed Wupa = Unit {0}
Fixed Anticollision = Unit {0}
Fixed Select = Unit {0}
Fixed Other = ⊥

module _ (k : Kind) (x : Fixed k) (one : Bool) where
  pub due_fixed : (d : ℕ) → due k one d ≡ fixed one
  due_fixed d = go k x
    where
      go : (k : Kind) → Fixed k → due k one d ≡ fixed one
      go Reqa x = refl
      go Wupa x = refl
      go Anticollision x = refl
      go Select x = refl
      go Other x = absurd x

  -- 0 exactly at the due delay
  pub zero_when_due : off_by k one (fixed one) ≡ pos 0
  unfolding off_by
  zero_when_due = rw (due_fixed (fixed one)) (late (fixed one) (fixed one) (omega arith) ∙ ap pos (omega arith))

  pub due_when_zero : (d : ℕ) → off_by k one d ≡ pos 0 → d ≡ fixed one
  unfolding off_by
  due_when_zero d e = zero_same d (due k one d) e ∙ due_fixed d

  -- it goes up to 2^31 - 1 less the due delay, which the longest delay that is judged meets
  pub most_fixed : (d : ℕ) → d < 2147483648 → off_by k one d ≤ℤ pos (2147483647 - fixed one)
  unfolding off_by
  most_fixed d h = rw (due_fixed d) (at_most d (fixed one) (2147483647 - fixed one) (omega arith))

  pub longest_fixed : off_by k one 2147483647 ≡ pos (2147483647 - fixed one)
  unfolding off_by
  longest_fixed = rw (due_fixed 2147483647) (go one)
    where
      go : (b : Bool) → pos 2147483647 -ℤ pos (fixed b) ≡ pos (2147483647 - fixed b)
      go true = refl
      go false = refl
