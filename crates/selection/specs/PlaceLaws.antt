-- Where the parity of an answer to ANTICOLLISION broke: the byte that is named is the level's first that is wrong among those whole in the answer,
-- and no other is. Assumes nothing.
use Rattle.std.specs.Prelude.{◌≡◌, true, false, List, drop}
use Rattle.std.proofs.Math.Path.{ap}
use Rattle.std.proofs.Common.{◌∙◌, drop-drop}
use Prim.Native.Nat.{ℕ, ◌+◌, ◌-◌, ◌*◌, ◌/◌, ◌≤◌, ◌<◌}
use native.Mathlib.Omega.{arith}
use Rattle.frame.specs.Frame.{wrong_byte, first_wrong, faulty}
use Rattle.frame.proofs.WrongLaws.{BrokeAt, first_broke, broke_first}
use Rattle.selection.specs.Heard.{rest_place}

-- byte j of the level's five: none of its bits is among the k sent, its parity is wrong, and that of no such byte before it is
pub record RestBroke (k : ℕ) (w : List ℕ) (j : ℕ) : Type 0 where
  pub whole : k ≤ 8 * j
  pub five : j < 5
  pub wrong : wrong_byte (drop (9 * j) w) ≡ true
  pub first : (i : ℕ) → k ≤ 8 * i → i < j → wrong_byte (drop (9 * i) w) ≡ false

-- bytes behind those passed over
behind : (i j : ℕ) (w : List ℕ) → drop (9 * j) (drop (9 * i) w) ≡ drop (9 * (i + j)) w
behind i j w = let e : 9 * (i + j) ≡ 9 * i + 9 * j = omega arith in rw (e, drop-drop (9 * j) (9 * i) w)

module _ (k : ℕ) (w : List ℕ) where
  pub rest_broke : faulty (5 - (k + 7) / 8) (drop (9 * ((k + 7) / 8)) w) ≡ true → RestBroke k w (rest_place k w)
  unfolding rest_place
  rest_broke f =
      let i : ℕ = (k + 7) / 8 in
      let p : ℕ = first_wrong (5 - i) (drop (9 * i) w) in
      let b : BrokeAt (5 - i) (drop (9 * i) w) p = first_broke (5 - i) (drop (9 * i) w) f in
      record {
        whole = omega arith;
        five = omega (arith, b.checked);
        wrong = rw (← behind i p w) b.wrong;
        first = λ m h l.
            let e : i + (m - i) ≡ m = omega arith in
            rw (rw e at (behind i (m - i) w)) at (b.first (m - i) (omega arith));
      }

  pub broke_rest : (j : ℕ) → RestBroke k w j → rest_place k w ≡ j
  unfolding rest_place
  broke_rest j b =
      let i : ℕ = (k + 7) / 8 in
      let e : i + (j - i) ≡ j = omega (arith, b.whole) in
      let c : BrokeAt (5 - i) (drop (9 * i) w) (j - i) =
      record {
        checked = omega (arith, b.five, b.whole);
        wrong = rw (behind i (j - i) w, e) b.wrong;
        first = λ m h. rw (behind i m w) (b.first (i + m) (omega arith) (omega (arith, b.whole)));
      } in
      ap (λ n. i + n) (broke_first (5 - i) (drop (9 * i) w) (j - i) c) ∙ e
