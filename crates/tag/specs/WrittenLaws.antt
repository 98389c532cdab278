-- A write without error makes the named blocks those sent and changes no other. Assumes nothing.
use Rattle.std.specs.Prelude.{◌≡◌, refl, List, [], ◌∷◌, ◌++◌, take}
use Rattle.std.proofs.Common.{sym, ◌∙◌, mul-add, mul-le-mul_left, take-take, length-take-le}
use Rattle.std.proofs.Math.Path.{ap}
use Prim.Native.Nat.{ℕ, zero, suc, ◌+◌, ◌-◌, ◌*◌, ◌≤◌, ◌<◌}
use native.Mathlib.Omega.{arith}
use Rattle.std.proofs.Math.ListN.{length, drop, length-drop}
use Rattle.std.proofs.Math.Seq.{take-append-le, drop-append-le, drop-append-add, drop-drop}
use Rattle.rows.specs.Rows.{overlay}
use Rattle.rows.proofs.RowLaws.{length_overlay}
use Rattle.frame.specs.Frame.{bytes_of}
use Rattle.frame.specs.ByteLaws.{length_bytes}
use Rattle.request_v.specs.Request.{deed_of}
use Rattle.request_v.specs.declared.Tag.{Tag}
use Rattle.request_v.specs.declared.Deed.TheVariants.{Writes}
use Rattle.tag.specs.Memory.{block_of}
use Rattle.tag.specs.Tag.{memory_after}
use Rattle.tag.specs.Safe.{Safe}
use Rattle.tag.specs.SafeLaws.{deed_safe}
use Rattle.tag.specs.CallLaws.{named_fit}
use Rattle.tag.specs.Written.{Written}

-- a part that ends within the first m elements
part_take : (k i m : ℕ) (l : List ℕ) → i + k ≤ m → take k (drop i (take m l)) ≡ take k (drop i l)
part_take k zero m l h = take-take k m l (omega arith)
part_take k (suc i) zero l h = absurd (omega arith)
part_take k (suc i) (suc m) [] h = refl
part_take k (suc i) (suc m) (x ∷ l) h = part_take k i m l (omega arith)

module _ (size a n : ℕ) (d s : List ℕ) (e : length s ≡ size * n) (h : size * a + size * n ≤ length d) where
  start : length (take (size * a) d) ≡ size * a
  start = length-take-le (size * a) d (omega arith)

  ahead : (b : ℕ) → b < a → block_of size (overlay d (size * a) s) b ≡ block_of size d b
  unfolding block_of overlay
  ahead b k =
      let m : size * b + size ≤ size * a = rw (sym (mul_suc b)) (mul-le-mul_left {m = b + 1} {n = a} size (omega arith)) in
      rw (drop-append-le (size * b) (take (size * a) d) (s ++ drop (size * a + length s) d) (omega (arith, start)), take-append-le size (drop (size * b) (take (size * a) d)) (s ++ drop (size * a + length s) d) (rw length-drop (omega (arith, start))))
      (part_take size (size * b) (size * a) d m)
    where
      mul_suc : (b : ℕ) → size * (b + 1) ≡ size * b + size
      mul_suc b = rw (mul-add size b 1) (omega arith)

  named : (i : ℕ) → i < n → block_of size (overlay d (size * a) s) (a + i) ≡ block_of size s i
  unfolding block_of overlay
  named i k =
      let m : size * i + size ≤ size * n = rw (sym (mul_suc i)) (mul-le-mul_left {m = i + 1} {n = n} size (omega arith)) in
      let z : size * (a + i) ≡ length (take (size * a) d) + size * i = rw (mul-add size a i, start) in
      rw (z, drop-append-add (take (size * a) d) (s ++ drop (size * a + length s) d) (size * i), drop-append-le (size * i) s (drop (size * a + length s) d) (omega arith))
      (take-append-le size (drop (size * i) s) (drop (size * a + length s) d) (rw length-drop (omega arith)))
    where
      mul_suc : (b : ℕ) → size * (b + 1) ≡ size * b + size
      mul_suc b = rw (mul-add size b 1) (omega arith)

  behind : (b : ℕ) → a + n ≤ b → block_of size (overlay d (size * a) s) b ≡ block_of size d b
  unfolding block_of overlay
  behind b k =
      let m : size * a + size * n ≤ size * b = rw (sym (mul-add size a n)) (mul-le-mul_left {m = a + n} {n = b} size k) in
      let j : ℕ = size * b - (size * a + size * n) in
      let z : size * b ≡ length (take (size * a) d) + (length s + j) = omega (arith, start) in
      let y : size * a + length s + j ≡ size * b = omega arith in
      ap (take size) (ap (λ i. drop i (take (size * a) d ++ (s ++ drop (size * a + length s) d))) z
      ∙ drop-append-add (take (size * a) d) (s ++ drop (size * a + length s) d) (length s + j)
      ∙ drop-append-add s (drop (size * a + length s) d) j ∙ drop-drop j (size * a + length s) d ∙ ap (λ i. drop i d) y)

-- whatever the row is: if it makes a tag with so much memory write, that is what comes of it
pub write_written : (t : Tag) (locks f memory : List ℕ) (a n p : ℕ) → t.blocks * t.size ≤ length memory → deed_of t locks f ≡ Writes a n p
    → Written t.size a n p f memory (memory_after t.size f (deed_of t locks f) memory)
write_written t locks f memory a n p r e =
    let s : Safe t f (Writes a n p) = rw e at (deed_safe t f locks) in
    let l : List ℕ = bytes_of (t.size * n) (drop (8 * p) f) in
    let k : length l ≡ t.size * n = length_bytes (t.size * n) (drop (8 * p) f) in
    let h : t.size * a + t.size * n ≤ length memory = omega (arith, named_fit t.size a n t.blocks s.0) in
    rw e (record {
      named = named t.size a n memory l k h;
      ahead = ahead t.size a n memory l k h;
      behind = behind t.size a n memory l k h;
      long = length_overlay memory (t.size * a) l (omega (arith, k));
    })
