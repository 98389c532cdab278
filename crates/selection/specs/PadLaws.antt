-- Zeros behind a row of bits change none of its bytes. Assumes nothing.
use Rattle.std.specs.Prelude.{◌≡◌, refl, Bool, true, false, List, [], ◌∷◌, ◌++◌, ℕ, zero, suc, ◌+◌, ◌-◌, ◌≤◌, ◌<◌, min, length, take, drop, replicate, ltb}
use Rattle.std.proofs.Common.{ap, ap₂, ◌∙◌, arith, drop_of_length-le, take_all, ltb-true, ltb-false}
use Rattle.std.proofs.lemmas.List.{take-append-le, drop-append-le}
use Rattle.std.proofs.Math.Seq.{take-append-add, drop-append-add}
use Rattle.rows.specs.Rows.{fill}
use Rattle.parity.specs.Bits.{unbits}
use Rattle.frame.specs.Frame.{bytes_of}

take_zeros : (n k : ℕ) → take n (replicate {A = ℕ} k 0) ≡ replicate (min n k) 0
take_zeros zero k = let e : min 0 k ≡ 0 = omega arith in rw e
take_zeros (suc n) zero = let e : min (suc n) 0 ≡ 0 = omega arith in rw e
take_zeros (suc n) (suc k) = let e : min (suc n) (suc k) ≡ suc (min n k) = omega arith in rw e (ap (λ l. 0 ∷ l) (take_zeros n k))

drop_zeros : (n k : ℕ) → drop n (replicate {A = ℕ} k 0) ≡ replicate (k - n) 0
drop_zeros zero k = let e : k - 0 ≡ k = omega arith in rw e
drop_zeros (suc n) zero = let e : 0 - suc n ≡ 0 = omega arith in rw e
drop_zeros (suc n) (suc k) = let e : suc k - suc n ≡ k - n = omega arith in rw e (drop_zeros n k)

unbits_pad : (l : List ℕ) (k : ℕ) → unbits (l ++ replicate k 0) ≡ unbits l
unfolding unbits
unbits_pad [] zero = refl
unbits_pad [] (suc k) = omega (arith, unbits_pad [] k)
unbits_pad (x ∷ l) k = rw (unbits_pad l k)

-- a byte and what is behind it, where zeros are behind d
module _ (d : List ℕ) (k : ℕ) where
  pad_byte : unbits (take 8 (d ++ replicate k 0)) ≡ unbits (take 8 d)
  pad_byte = go (ltb (length d) 8) refl
    where
      go : (b : Bool) → ltb (length d) 8 ≡ b → unbits (take 8 (d ++ replicate k 0)) ≡ unbits (take 8 d)
      go true e =
          let l : length d < 8 = ltb-true (length d) 8 e in
          let m : 8 ≡ length d + (8 - length d) = omega arith in
          ap (λ (j : ℕ). unbits (take j (d ++ replicate k 0))) m
          ∙ rw (take-append-add d (replicate k 0) (8 - length d), take_zeros (8 - length d) k, unbits_pad d (min (8 - length d) k), take_all 8 d (omega arith))
      go false e = let l : 8 ≤ length d = ltb-false (length d) 8 e in rw (take-append-le 8 d (replicate k 0) l)

  -- what is behind: zeros behind what is behind in d
  pad_rest : drop 8 (d ++ replicate k 0) ≡ drop 8 d ++ replicate (k - (8 - length d)) 0
  pad_rest = go (ltb (length d) 8) refl
    where
      go : (b : Bool) → ltb (length d) 8 ≡ b → drop 8 (d ++ replicate k 0) ≡ drop 8 d ++ replicate (k - (8 - length d)) 0
      go true e =
          let l : length d < 8 = ltb-true (length d) 8 e in
          let m : 8 ≡ length d + (8 - length d) = omega arith in
          ap (λ (j : ℕ). drop j (d ++ replicate k 0)) m
          ∙ rw (drop-append-add d (replicate k 0) (8 - length d), drop_zeros (8 - length d) k, drop_of_length-le d {i = 8} (omega arith))
      go false e =
          let l : 8 ≤ length d = ltb-false (length d) 8 e in
          let z : k - (8 - length d) ≡ k = omega arith in
          rw (drop-append-le 8 d (replicate k 0) l, z)

bytes_pad : (n : ℕ) (d : List ℕ) (k : ℕ) → bytes_of n (d ++ replicate k 0) ≡ bytes_of n d
unfolding bytes_of
bytes_pad zero d k = refl
bytes_pad (suc n) d k = ap₂ ◌∷◌ (pad_byte d k) (ap (bytes_of n) (pad_rest d k) ∙ bytes_pad n (drop 8 d) (k - (8 - length d)))

pub bytes_fill : (n m : ℕ) (d : List ℕ) → bytes_of n (fill m d) ≡ bytes_of n d
unfolding fill
bytes_fill n m d = bytes_pad n d (m - length d)
