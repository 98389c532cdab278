-- Laws of rows packed into bytes. Assumes nothing.
use Rattle.std.specs.Prelude.{◌≡◌, refl, ℕ, zero, suc, ◌+◌, ◌*◌, ◌^◌, ◌≤◌, ◌<◌, Bool, true, false, cond, List, [], ◌∷◌, ◌++◌, ltb, length, take, drop, get_or, set}
use Rattle.std.proofs.Common.{ap, mul_assoc, mul_comm, add-one, arith, pow_pos, pow_mono, drop-drop, get_or-drop, ltb-false}
use Rattle.std.proofs.Math.Nat.{pow-succ'}
use Rattle.std.proofs.lemmas.List.{length-map}
use Rattle.std.proofs.Math.ListN.{get_or-map}
use Rattle.rows.specs.Rows.{overlay, Bits}
use Rattle.rows.proofs.RowLaws.{overlay_set}
use Rattle.rows.specs.ListLaws.{all_take_law, all_drop}
use Rattle.air_log.specs.Log.{from_top, packed, plain, marks}
use Rattle.air_log.specs.Calls.{shown, shown_bit}

-- ---- the number of a row, the first bit in the top

pub twice : (x n : ℕ) → x * 2 ^ suc n ≡ 2 * (x * 2 ^ n)
twice x n = rw (pow-succ' 2 n, ← mul_assoc x 2 (2 ^ n), mul_comm x 2, mul_assoc 2 x (2 ^ n))

-- one bit more at the bottom
pub top_next : (j : ℕ) (l : List ℕ) → from_top (suc j) (take (suc j) l) ≡ 2 * from_top j (take j l) + get_or l j 0
unfolding from_top
top_next zero [] = refl
top_next (suc j) [] = refl
top_next zero (x ∷ l) = omega arith
top_next (suc j) (x ∷ l) = omega (arith, twice x j, top_next j l)

pub top_lt : (n : ℕ) (r : List ℕ) → Bits r → from_top n r < 2 ^ n
unfolding from_top
top_lt zero r b = omega arith
top_lt (suc n) [] b = pow_pos (suc n)
top_lt (suc n) (zero ∷ r) b = omega (arith, top_lt n r b.1)
top_lt (suc n) (suc zero ∷ r) b = omega (arith, top_lt n r b.1)
top_lt (suc n) (suc (suc x) ∷ r) b = absurd (omega (arith, b.0))

-- a turn of the loop over a byte's bits
pub byte_turn : (s : List ℕ) (from j : ℕ)
    → from_top (j + 1) (take (j + 1) (drop from s)) ≡ 2 * from_top j (take j (drop from s)) + get_or s (from + j) 0
byte_turn s from j = rw (add-one, ← get_or-drop from s j 0) (top_next j (drop from s))

pub byte_small : (s : List ℕ) (from j : ℕ) → Bits s → j < 8 → from_top j (take j (drop from s)) < 128
byte_small s from j b h =
    let t : List ℕ = take j (drop from s) in
    let h' : j ≤ 7 = omega arith in
    let le : 2 ^ j ≤ 2 ^ 7 = pow_mono h' in
    omega (arith, le, top_lt j t (all_take_law (λ x. x < 2) j (drop from s) (all_drop (λ x. x < 2) from s b)))

-- ---- a row, byte by byte

pub length_packed : (n : ℕ) (r : List ℕ) → length (packed n r) ≡ n
unfolding packed
length_packed zero r = refl
length_packed (suc n) r = ap suc (length_packed n (drop 8 r))

packed_next : (k : ℕ) (r : List ℕ) → packed (suc k) r ≡ packed k r ++ from_top 8 (take 8 (drop (8 * k) r)) ∷ []
unfolding packed
packed_next zero r = refl
packed_next (suc k) r =
    let e : 8 * suc k ≡ 8 + 8 * k = omega arith in
    rw (e, ← drop-drop (8 * k) 8 r) (ap (λ l. from_top 8 (take 8 r) ∷ l) (packed_next k (drop 8 r)))

-- a turn of the loop over a row's bytes
pub packed_turn : (d : List ℕ) (at k : ℕ) (r : List ℕ) → at + k < length d
    → set (overlay d at (packed k r)) (at + k) (from_top 8 (take 8 (drop (8 * k) r))) ≡ overlay d at (packed (k + 1) r)
packed_turn d at k r h =
    rw (add-one, packed_next k r)
    (rw (length_packed k r) at (overlay_set d at (packed k r) (from_top 8 (take 8 (drop (8 * k) r))) (rw (length_packed k r) h)))

-- ---- what a record shows of a row

pub length_shown : (m : Bool) (r : List ℕ) → length (shown m r) ≡ length r
unfolding plain marks
length_shown true r = length-map r _
length_shown false r = length-map r _

pub shown_at : (m : Bool) (r : List ℕ) (i : ℕ) → get_or (shown m r) i 0 ≡ shown_bit m (get_or r i 0)
unfolding plain marks
shown_at true r i = get_or-map (λ x. cond (ltb 1 x) 1 0) r i 0
shown_at false r i = get_or-map (λ x. cond (ltb 1 x) 0 x) r i 0

bit_lt : (m : Bool) (x : ℕ) → shown_bit m x < 2
bit_lt true x = go (ltb 1 x)
  where
    go : (t : Bool) → cond t 1 0 < 2
    go true = omega arith
    go false = omega arith
bit_lt false x = go (ltb 1 x) refl
  where
    go : (t : Bool) → ltb 1 x ≡ t → cond t 0 x < 2
    go true e = omega arith
    go false e = omega (arith, ltb-false 1 x e)

pub shown_bits : (m : Bool) (r : List ℕ) → Bits (shown m r)
unfolding plain marks
shown_bits true [] = tt
shown_bits false [] = tt
shown_bits true (x ∷ r) = (bit_lt true x, shown_bits true r)
shown_bits false (x ∷ r) = (bit_lt false x, shown_bits false r)

pub bit_small : (m : Bool) (r : List ℕ) (i : ℕ) → get_or (shown m r) i 0 < 2
bit_small m r i = rw (shown_at m r i) (bit_lt m (get_or r i 0))
