-- Laws of a tag's memory: what a read shows, block by block. Assumes nothing.
use Rattle.std.specs.Prelude.{◌≡◌, Bool, cond, List, [], ◌∷◌, ◌++◌, length, drop, get_or, eqb}
use Rattle.std.proofs.Math.Path.{sym, ap}
use Rattle.std.proofs.Common.{◌∙◌, add-zero, add-mul, mul-le-mul_right, mul_comm, add-one, append_assoc, append-nil, length-append, length-take, length-drop}
use Prim.Native.Nat.{ℕ, zero, suc, ◌+◌, ◌-◌, ◌*◌, ◌≤◌, ◌<◌}
use native.Mathlib.Omega.{arith}
use Rattle.std.proofs.Math.Bool.{true, false}
use Rattle.std.proofs.Math.ListN.{take}
use Rattle.rows.specs.Rows.{overlay, Bytes}
use Rattle.rows.proofs.RowLaws.{overlay_next}
use Rattle.rows.specs.ListLaws.{all_take_law, all_drop, all_append}
use Rattle.frame.specs.Frame.{air_bits}
use Rattle.frame.specs.ByteLaws.{length_air_bits, air_bits_append}
use Rattle.tag.specs.Memory.{block_of, shown, shown_from}

-- ---- one block

module _ (size : ℕ) (memory : List ℕ) (b : ℕ) (h : size * b + size ≤ length memory) where
  pub length_block : length (block_of size memory b) ≡ size
  unfolding block_of
  length_block = rw (length-take, length-drop) (omega arith)

  -- as a part of the lent memory
  pub block_part : take (size * b + size - size * b) (drop (size * b) memory) ≡ block_of size memory b
  unfolding block_of
  block_part = let e : size * b + size - size * b ≡ size = omega arith in rw e

  pub length_shown : (s : Bool) (locks : List ℕ) → length (shown s size memory locks b) ≡ cond s (size + 1) size
  unfolding shown
  length_shown true locks = rw (length_block, add-one)
  length_shown false locks = length_block

-- a status, and the block behind it
pub status_put : (d l : List ℕ) (x at : ℕ) → 8 * (at + length l + 1) ≤ length d
    → overlay (overlay d (8 * at) (air_bits (x ∷ []))) (8 * (at + 1)) (air_bits l) ≡ overlay d (8 * at) (air_bits (x ∷ l))
status_put d l x at h =
    let e : length (air_bits (x ∷ [])) ≡ 8 = rw length_air_bits in
    let k : 8 * (at + 1) ≡ 8 * at + length (air_bits (x ∷ [])) = omega (arith, e) in
    rw k (overlay_next d (8 * at) (air_bits (x ∷ [])) (air_bits l) (omega (arith, e, length_air_bits l)) ∙ ap (overlay d (8 * at)) (sym (air_bits_append (x ∷ []) l)))

-- ---- several blocks

module _ (s : Bool) (size : ℕ) (memory locks : List ℕ) where
  -- one block more, at the end
  pub shown_last : (b n : ℕ) → shown_from s size memory locks b (suc n) ≡ shown_from s size memory locks b n ++ shown s size memory locks (b + n)
  unfolding shown_from
  shown_last b zero = rw (add-zero, append-nil)
  shown_last b (suc n) =
      let e : b + 1 + n ≡ b + suc n = omega arith in
      ap (λ l. shown s size memory locks b ++ l) (shown_last (b + 1) n ∙ ap (λ k. shown_from s size memory locks (b + 1) n ++ shown s size memory locks k) e)
      ∙ sym (append_assoc (shown s size memory locks b) (shown_from s size memory locks (b + 1) n) (shown s size memory locks (b + suc n)))

  -- a turn of the loop
  pub shown_turn : (d : List ℕ) (b i at : ℕ) → at ≡ 1 + length (shown_from s size memory locks b i) → 8 * (at + length (shown s size memory locks (b + i))) ≤ length d
      → overlay (overlay d 8 (air_bits (shown_from s size memory locks b i))) (8 * at) (air_bits (shown s size memory locks (b + i))) ≡ overlay d 8 (air_bits (shown_from s size memory locks b (i + 1)))
  shown_turn d b i at e h =
      let X : List ℕ = shown_from s size memory locks b i in
      let Y : List ℕ = shown s size memory locks (b + i) in
      let k : 8 * at ≡ 8 + length (air_bits X) = omega (arith, length_air_bits X) in
      rw (add-one, shown_last b i, k)
      (overlay_next d 8 (air_bits X) (air_bits Y) (omega (arith, length_air_bits X, length_air_bits Y)) ∙ ap (overlay d 8) (sym (air_bits_append X Y)))

  pub count_turn : (b i at n : ℕ) → at ≡ 1 + length (shown_from s size memory locks b i) → n ≡ length (shown s size memory locks (b + i))
      → at + n ≡ 1 + length (shown_from s size memory locks b (i + 1))
  count_turn b i at n e k = rw (add-one, shown_last b i, length-append) (omega arith)

  -- what is shown are bytes
  shown_bytes : Bytes memory → (b : ℕ) → Bytes (shown s size memory locks b)
  unfolding shown block_of
  shown_bytes m b =
      let k : Bytes (take size (drop (size * b) memory)) = all_take_law (λ x. x < 256) size (drop (size * b) memory) (all_drop (λ x. x < 256) (size * b) memory m) in
      go s (eqb (get_or locks b 0) 0) k
    where
      go : (t z : Bool) → Bytes (take size (drop (size * b) memory))
          → Bytes (cond t (cond z 0x00 0x01 ∷ take size (drop (size * b) memory)) (take size (drop (size * b) memory)))
      go true true k = (omega arith, k)
      go true false k = (omega arith, k)
      go false z k = k

  pub shown_all_bytes : Bytes memory → (b n : ℕ) → Bytes (shown_from s size memory locks b n)
  unfolding shown_from
  shown_all_bytes m b zero = tt
  shown_all_bytes m b (suc n) = all_append (λ x. x < 256) (shown s size memory locks b) (shown_from s size memory locks (b + 1) n) (shown_bytes m b) (shown_all_bytes m (b + 1) n)

-- ---- numbers

-- block i of n blocks of k bytes ends within them
pub turn_fits : (k i n : ℕ) → i < n → i * k + k ≤ n * k
turn_fits k i n h =
    let e : (i + 1) * k ≡ i * k + k = rw (add-mul i 1 k) (omega arith) in
    rw (← e) (mul-le-mul_right {m = i + 1} {n = n} k (omega arith))

-- .. in a memory
pub block_fits : (size b blocks : ℕ) → b < blocks → size * b + size ≤ blocks * size
block_fits size b blocks h = rw (mul_comm size b) (turn_fits size b blocks h)

pub next_blocks : (k i : ℕ) → (i + 1) * k ≡ i * k + k
next_blocks k i = rw (add-mul i 1 k) (omega arith)

-- ---- the answer to an inventory

pub told_put : (x : ℕ) (uid d : List ℕ) → length uid ≡ 8 → d ≡ overlay (0 ∷ x ∷ 0 ∷ 0 ∷ 0 ∷ 0 ∷ 0 ∷ 0 ∷ 0 ∷ 0 ∷ []) 2 uid → d ≡ 0 ∷ x ∷ uid
unfolding overlay
told_put x uid d n e = e ∙ rw n (ap (λ l. 0 ∷ x ∷ l) (append-nil uid))

-- ---- the answer to a read: 00, and behind it the bytes X

pub read_row : (d X o₁ o₂ : List ℕ) → 8 * (1 + length X) ≤ length d → o₁ ≡ overlay d 0 (air_bits (0 ∷ [])) → o₂ ≡ overlay o₁ 8 (air_bits X) → o₂ ≡ overlay d 0 (air_bits (0 ∷ X))
read_row d X o₁ o₂ h e₁ e₂ =
    let e : length (air_bits (0 ∷ [])) ≡ 8 = rw length_air_bits in
    let z : 8 ≡ 0 + length (air_bits (0 ∷ [])) = omega (arith, e) in
    e₂ ∙ rw (e₁, z) (overlay_next d 0 (air_bits (0 ∷ [])) (air_bits X) (omega (arith, e, length_air_bits X)) ∙ ap (overlay d 0) (sym (air_bits_append (0 ∷ []) X)))
