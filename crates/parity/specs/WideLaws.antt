-- A byte's bits out of the wide number in which they stand, one in each byte. Assumes nothing.
use Rattle.std.specs.Prelude.{◌≡◌, true, List, [], ◌∷◌, ℕ, suc, ◌+◌, ◌*◌, ◌/◌, ◌%◌, ◌≤◌, ◌<◌, length, take, drop, get_or}
use Rattle.std.proofs.Common.{ap, ap₂, ◌∙◌, add_comm, zero-add, arith, drop-cons}
use Rattle.std.proofs.Math.Nat.{add-mul-div_left, div-eq_of_lt}
use Rattle.rows.specs.Rows.{Bits, clean}
use Rattle.rows.specs.HeardLaws.{clean_bits}
use Rattle.parity.specs.Bits.{unbits, wide}
use Rattle.parity.specs.BitLaws.{unbits_lt}

-- the eight elements at an index
eight_at : List ℕ → ℕ → List ℕ
eight_at l i =
    get_or l i 0 ∷ get_or l (i + 1) 0 ∷ get_or l (i + 2) 0 ∷ get_or l (i + 3) 0 ∷ get_or l (i + 4) 0 ∷ get_or l (i + 5) 0 ∷ get_or l (i + 6) 0 ∷ get_or l (i + 7) 0 ∷ []

one_more : (l : List ℕ) (n i j : ℕ) → j ≡ suc i → i < length l → take (suc n) (drop i l) ≡ get_or l i 0 ∷ take n (drop j l)
one_more l n i j e h = rw (drop-cons l i 0 h, e)

take_eight : (l : List ℕ) (i : ℕ) → i + 8 ≤ length l → take 8 (drop i l) ≡ eight_at l i
unfolding eight_at
take_eight l i h =
    rw (
      one_more l 7 i (i + 1) (omega arith) (omega arith),
      one_more l 6 (i + 1) (i + 2) (omega arith) (omega arith),
      one_more l 5 (i + 2) (i + 3) (omega arith) (omega arith),
      one_more l 4 (i + 3) (i + 4) (omega arith) (omega arith),
      one_more l 3 (i + 4) (i + 5) (omega arith) (omega arith),
      one_more l 2 (i + 5) (i + 6) (omega arith) (omega arith),
      one_more l 1 (i + 6) (i + 7) (omega arith) (omega arith),
      one_more l 0 (i + 7) (i + 8) (omega arith) (omega arith),
    )

-- by halves
pub wide_halves : (l : List ℕ) (i : ℕ) → i + 8 ≤ length l
    → get_or l i 0 + 256 * get_or l (i + 1) 0 + 65536 * get_or l (i + 2) 0 + 16777216 * get_or l (i + 3) 0
    + 4294967296 * (get_or l (i + 4) 0 + 256 * get_or l (i + 5) 0 + 65536 * get_or l (i + 6) 0 + 16777216 * get_or l (i + 7) 0) ≡ wide (take 8 (drop i l))
unfolding wide eight_at
wide_halves l i h = rw (take_eight l i h) (omega arith)

-- a number's upper part and its lower one
upper : (n x q r : ℕ) → x ≡ n * q + r → r < n → x / n ≡ q
upper n x q r e l = rw (e, add_comm (n * q) r, add-mul-div_left r q {y = n} (omega arith), div-eq_of_lt l, zero-add)

lower : (q r : ℕ) → r < 256 → (256 * q + r) % 256 ≡ r
lower q r l = omega arith

module _ (a b c d e f g h : ℕ) where
  -- the wide number of eight bits
  abbrev bits_wide : ℕ
  bits_wide = a + 256 * (b + 256 * (c + 256 * (d + 256 * (e + 256 * (f + 256 * (g + 256 * (h + 256 * 0)))))))

  -- what is left of it 7 places further down, of the sum of both 14 places further down, and of that sum 28 places further down
  abbrev by7 : ℕ
  by7 = 2 * b + 512 * c + 131072 * d + 33554432 * e + 8589934592 * f + 2199023255552 * g + 562949953421312 * h

  abbrev by14 : ℕ
  by14 = 4 * c + 1032 * d + 264192 * e + 67633152 * f + 17314086912 * g + 4432406249472 * h

  abbrev by28 : ℕ
  by28 = 16 * e + 4128 * f + 1056832 * g + 270549120 * h

  -- the sum of all four is the byte and what stands above it
  abbrev above : ℕ
  above = b + 258 * c + 66052 * d + 16909320 * e + 4328785936 * f + 1108169199648 * g + 283691315109952 * h

  abbrev byte : ℕ
  byte = a + 2 * (b + 2 * (c + 2 * (d + 2 * (e + 2 * (f + 2 * (g + 2 * (h + 2 * 0)))))))

  all_four : bits_wide + by7 + by14 + by28 ≡ 256 * above + byte
  all_four = omega arith

  module _ (p : Bits (a ∷ b ∷ c ∷ d ∷ e ∷ f ∷ g ∷ h ∷ [])) where
    pub bits_lt : bits_wide < 144115188075855872
    bits_lt = omega (arith, p)

    first : bits_wide / 128 ≡ by7
    first = upper 128 bits_wide by7 a (omega arith) (omega (arith, p))

    second : (bits_wide + by7) / 16384 ≡ by14
    second = upper 16384 (bits_wide + by7) by14 (a + 258 * b + 512 * c) (omega arith) (omega (arith, p))

    third : (bits_wide + by7 + by14) / 268435456 ≡ by28
    third = upper 268435456 (bits_wide + by7 + by14) by28 (a + 258 * b + 66052 * c + 16909320 * d + 33818624 * e + 67633152 * f + 134217728 * g) (omega arith) (omega (arith, p))

    pub gather : (x y z : ℕ) → x ≡ bits_wide → y ≡ x + x / 128 → z ≡ y + y / 16384 → (z + z / 268435456) % 256 ≡ byte
    gather x y z j k l =
        let m : y ≡ bits_wide + by7 = k ∙ ap₂ ◌+◌ j (ap (λ t. t / 128) j ∙ first) in
        let n : z ≡ bits_wide + by7 + by14 = l ∙ ap₂ ◌+◌ m (ap (λ t. t / 16384) m ∙ second) in
        let o : z + z / 268435456 ≡ 256 * above + byte = ap₂ ◌+◌ n (ap (λ t. t / 268435456) n ∙ third) ∙ all_four in
        ap (λ t. t % 256) o ∙ lower above byte (unfold unbits in unbits_lt 8 (a ∷ b ∷ c ∷ d ∷ e ∷ f ∷ g ∷ h ∷ []) p (omega arith))

-- the eight bits at an index: the sums of their wide number fit, and the byte is below
module _ (l : List ℕ) (i : ℕ) (h : i + 8 ≤ length l) (e : clean (take 8 (drop i l)) ≡ true) (x y z : ℕ) (j : x ≡ wide (take 8 (drop i l)))
    (k : y ≡ x + x / 128) (m : z ≡ y + y / 16384) where
  bits : Bits (eight_at l i)
  bits = clean_bits (eight_at l i) (rw (take_eight l i h) at e)

  wide_lt : x < 144115188075855872
  unfolding wide eight_at
  wide_lt =
      rw (j, take_eight l i h)
      (bits_lt (get_or l i 0) (get_or l (i + 1) 0) (get_or l (i + 2) 0) (get_or l (i + 3) 0) (get_or l (i + 4) 0) (get_or l (i + 5) 0) (get_or l (i + 6) 0) (get_or l (i + 7) 0) bits)

  pub sums_fit : (y < 18446744073709551616) × (z < 18446744073709551616) × (z + z / 268435456 < 18446744073709551616)
  sums_fit = (omega (arith, wide_lt), omega (arith, wide_lt), omega (arith, wide_lt))

  pub gathered : (z + z / 268435456) % 256 ≡ unbits (take 8 (drop i l))
  unfolding wide unbits eight_at
  gathered =
      rw (take_eight l i h)
      (gather (get_or l i 0) (get_or l (i + 1) 0) (get_or l (i + 2) 0) (get_or l (i + 3) 0) (get_or l (i + 4) 0) (get_or l (i + 5) 0) (get_or l (i + 6) 0) (get_or l (i + 7) 0) bits x y z
      (rw (take_eight l i h) at j) k m)
