-- The I blocks in which a message goes out, in plain words: as few as can be, each but the last full and chained, the payloads joined are the
-- message, the numbers alternate. Assumes nothing.
use Rattle.std.specs.Prelude.{◌≡◌, refl, Bool, true, false, not, List, [], ◌∷◌, map, ℕ, zero, suc, ◌+◌, ◌-◌, ◌≤◌, ◌<◌, length, drop, ltb}
use Rattle.std.proofs.Common.{ap, ap₂, ◌∙◌, append-nil, arith, length-drop, take-append-drop, take_all, drop-drop, lt-ltb, le-ltb, ltb-true, ltb-false}
use Rattle.std.proofs.Math.Nat.{sub-zero}
use Rattle.block.specs.declared.Block.{Block}
use Rattle.block.specs.declared.Block.TheVariants.{I}
use Rattle.block.specs.Block.{kind, block_bytes, block_of, behind}
use Rattle.block.specs.Cut.{payload_max, follows, part, fewest, cut_from, cut}
use Rattle.block.specs.CutLaws.{fewest_last, fewest_next, fewest_some, part_full, joined}

-- every block of a list but the last has a full payload
abbrev pub Full : ℕ → List (List ℕ) → Type 0
Full i [] = Unit
Full i (f ∷ []) = Unit
Full i (f ∷ g ∷ fs) = (length (behind f) ≡ payload_max i) × Full i (g ∷ fs)

-- k I blocks, the first with number n: the numbers alternate, and each but the last is chained
abbrev pub alternating : ℕ → Bool → List Block
alternating zero n = []
alternating (suc zero) n = I n false ∷ []
alternating (suc (suc k)) n = I n true ∷ alternating (suc k) (not n)

pub cut_count_from : (k i : ℕ) (n : Bool) (at : ℕ) (m : List ℕ) → length (cut_from k i n at m) ≡ k
unfolding cut_from
cut_count_from zero i n at m = refl
cut_count_from (suc k) i n at m = ap suc (cut_count_from k i (not n) (at + payload_max i) m)

-- as many as `fewest` has it, and `no-fewer` says that there are none with fewer
pub cut_count : (i : ℕ) (n : Bool) (m : List ℕ) → length (cut i n m) ≡ fewest i (length m)
unfolding cut
cut_count i n m = cut_count_from (fewest i (length m)) i n 0 m

-- of the blocks that are left the last is the one after which nothing follows
module _ (i at len : ℕ) where
  last_left : fewest i (len - at) ≡ 1 → len ≤ at + payload_max i
  last_left e = go (ltb (at + payload_max i) len) refl
    where
      go : (t : Bool) → ltb (at + payload_max i) len ≡ t → len ≤ at + payload_max i
      go false h = ltb-false (at + payload_max i) len h
      go true h =
          let l : at + payload_max i < len = ltb-true (at + payload_max i) len h in
          absurd (omega (arith, fewest_next i (len - at) (omega arith), fewest_some i (len - at - payload_max i)))

  more_left : (k : ℕ) → fewest i (len - at) ≡ suc (suc k) → at + payload_max i < len
  more_left k e = go (ltb (at + payload_max i) len) refl
    where
      go : (t : Bool) → ltb (at + payload_max i) len ≡ t → at + payload_max i < len
      go true h = ltb-true (at + payload_max i) len h
      go false h =
          let l : len ≤ at + payload_max i = ltb-false (at + payload_max i) len h in
          absurd (omega (arith, fewest_last i (len - at) (omega arith)))

  next_left : (k : ℕ) → fewest i (len - at) ≡ suc (suc k) → fewest i (len - (at + payload_max i)) ≡ suc k
  next_left k e =
      let l : at + payload_max i < len = more_left k e in
      let s : len - at - payload_max i ≡ len - (at + payload_max i) = omega arith in
      omega (arith, rw s at (fewest_next i (len - at) (omega arith)))

-- what a block that is sent is read as, and its payload
read_i : (n chained : Bool) (p : List ℕ) → block_of (block_bytes (I n chained) p) ≡ I n chained
unfolding kind
read_i true true p = refl
read_i true false p = refl
read_i false true p = refl
read_i false false p = refl

joined_from : (k i : ℕ) (n : Bool) (at : ℕ) (m : List ℕ) → fewest i (length m - at) ≡ suc k → joined (map behind (cut_from (suc k) i n at m)) ≡ drop at m
unfolding cut_from part
joined_from zero i n at m e =
    append-nil (part i at m) ∙ take_all (payload_max i) (drop at m) (rw length-drop (omega (arith, last_left i at (length m) e)))
joined_from (suc k) i n at m e =
    rw (joined_from k i (not n) (at + payload_max i) m (next_left i at (length m) k e), ← (drop-drop (payload_max i) at m))
    (take-append-drop (payload_max i) (drop at m))

-- the payloads joined are the message
pub cut_joined : (i : ℕ) (n : Bool) (m : List ℕ) → joined (map behind (cut i n m)) ≡ m
unfolding cut
cut_joined i n m =
    let k : ℕ = fewest i (length m) - 1 in
    let e : fewest i (length m) ≡ suc k = omega (arith, fewest_some i (length m)) in
    rw e (joined_from k i n 0 m (rw sub-zero e))

full_from : (k i : ℕ) (n : Bool) (at : ℕ) (m : List ℕ) → fewest i (length m - at) ≡ suc k → Full i (cut_from (suc k) i n at m)
unfolding cut_from
full_from zero i n at m e = tt
full_from (suc k) i n at m e =
    let l : at + payload_max i < length m = more_left i at (length m) k e in
    (part_full i at m (omega arith), full_from k i (not n) (at + payload_max i) m (next_left i at (length m) k e))

-- "each but the last full"
pub cut_full : (i : ℕ) (n : Bool) (m : List ℕ) → Full i (cut i n m)
unfolding cut
cut_full i n m =
    let k : ℕ = fewest i (length m) - 1 in
    let e : fewest i (length m) ≡ suc k = omega (arith, fewest_some i (length m)) in
    rw e (full_from k i n 0 m (rw sub-zero e))

blocks_from : (k i : ℕ) (n : Bool) (at : ℕ) (m : List ℕ) → fewest i (length m - at) ≡ suc k → map block_of (cut_from (suc k) i n at m) ≡ alternating (suc k) n
unfolding cut_from follows
blocks_from zero i n at m e =
    let b : ltb (at + payload_max i) (length m) ≡ false = le-ltb (at + payload_max i) (length m) (last_left i at (length m) e) in
    rw b (ap (λ x. x ∷ []) (read_i n false (part i at m)))
blocks_from (suc k) i n at m e =
    let b : ltb (at + payload_max i) (length m) ≡ true = lt-ltb (at + payload_max i) (length m) (more_left i at (length m) k e) in
    rw b (ap₂ (λ x xs. x ∷ xs) (read_i n true (part i at m)) (blocks_from k i (not n) (at + payload_max i) m (next_left i at (length m) k e)))

-- the numbers alternate, and each block but the last is chained
pub cut_blocks : (i : ℕ) (n : Bool) (m : List ℕ) → map block_of (cut i n m) ≡ alternating (fewest i (length m)) n
unfolding cut
cut_blocks i n m =
    let k : ℕ = fewest i (length m) - 1 in
    let e : fewest i (length m) ≡ suc k = omega (arith, fewest_some i (length m)) in
    rw e (blocks_from k i n 0 m (rw sub-zero e))
