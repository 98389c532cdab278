-- A table's rule at each of its entries, and the steps by tables. Assumes nothing.
use Rattle.std.specs.Prelude.{◌≡◌, ℕ, zero, suc, ◌+◌, ◌*◌, ◌/◌, ◌%◌, ◌<◌, List, get_or}
use Rattle.std.proofs.Common.{sym, ◌∙◌, arith}
use Rattle.std.specs.Int.Bits.{bit_xor}
use Rattle.std.proofs.lemmas.Nat.{xor_lt}
use Rattle.crc.specs.Crc.{shifts, crc_byte}
use Rattle.crc.specs.Table.{entries, table, placed, half_table}
use Rattle.crc.specs.LinearLaws.{shifts_byte, shifts_pair, shifts_halves, pair_shifts}

entry : (f : ℕ → ℕ) (i k j : ℕ) → j < k → get_or (entries f i k) j 0 ≡ f (i + j)
unfolding entries
entry f i zero j h = absurd (omega arith)
entry f i (suc k) zero h = let e : i + 0 ≡ i = omega arith in rw e
entry f i (suc k) (suc j) h = let e : i + suc j ≡ suc i + j = omega arith in rw e (entry f (suc i) k j (omega arith))

table_at : (n : ℕ) (t : List ℕ) (j : ℕ) → t ≡ table n → j < 256 → get_or t j 0 ≡ shifts n j
unfolding table
table_at n t j e h = let z : 0 + j ≡ j = omega arith in rw e (rw z at (entry (shifts n) 0 256 j h))

half_at : (n : ℕ) (t : List ℕ) (j : ℕ) → t ≡ half_table n → j < 64 → get_or t j 0 ≡ shifts n (placed j)
unfolding half_table
half_at n t j e h = let z : 0 + j ≡ j = omega arith in rw e (rw z at (entry (λ j. shifts n (placed j)) 0 64 j h))

pub byte_by_table : (t : List ℕ) (c b : ℕ) → t ≡ table 8 → bit_xor (get_or t (bit_xor c b % 256) 0) (bit_xor c b / 256) ≡ crc_byte c b
unfolding crc_byte
byte_by_table t c b e = rw (table_at 8 t (bit_xor c b % 256) e (omega arith)) (sym (shifts_byte (bit_xor c b)))

pub pair_by_table : (t u : List ℕ) (c a b : ℕ) → t ≡ table 8 → u ≡ table 16 → c < 65536 → a < 256 → b < 256
    → bit_xor (get_or u (bit_xor c (a + b * 256) % 256) 0) (get_or t (bit_xor c (a + b * 256) / 256) 0) ≡ crc_byte (crc_byte c a) b
pair_by_table t u c a b e f h k m =
    let x : ℕ = bit_xor c (a + b * 256) in
    let l : x < 65536 = xor_lt 16 c (a + b * 256) h (omega arith) in
    rw (table_at 16 u (x % 256) f (omega arith), table_at 8 t (x / 256) e (omega arith))
    (sym (shifts_pair x) ∙ sym (pair_shifts c a b k))

pub eight_by_table : (t : List ℕ) (c : ℕ) → t ≡ half_table 64 → c < 65536
    → bit_xor (bit_xor (bit_xor (get_or t (c % 16) 0) (get_or t (16 + c / 16 % 16) 0)) (get_or t (32 + c / 256 % 16) 0)) (get_or t (48 + c / 4096) 0)
    ≡ shifts 64 c
unfolding placed
eight_by_table t c e h =
    let m0 : c % 16 % 16 ≡ c % 16 = omega arith in
    let d0 : c % 16 / 16 ≡ 0 = omega arith in
    let m1 : (16 + c / 16 % 16) % 16 ≡ c / 16 % 16 = omega arith in
    let d1 : (16 + c / 16 % 16) / 16 ≡ 1 = omega arith in
    let m2 : (32 + c / 256 % 16) % 16 ≡ c / 256 % 16 = omega arith in
    let d2 : (32 + c / 256 % 16) / 16 ≡ 2 = omega arith in
    let m3 : (48 + c / 4096) % 16 ≡ c / 4096 = omega arith in
    let d3 : (48 + c / 4096) / 16 ≡ 3 = omega arith in
    let o : c % 16 * 1 ≡ c % 16 = omega arith in
    rw (
      half_at 64 t (c % 16) e (omega arith),
      half_at 64 t (16 + c / 16 % 16) e (omega arith),
      half_at 64 t (32 + c / 256 % 16) e (omega arith),
      half_at 64 t (48 + c / 4096) e (omega arith),
      m0,
      d0,
      m1,
      d1,
      m2,
      d2,
      m3,
      d3,
      o,
    )
    (sym (shifts_halves 64 c))
