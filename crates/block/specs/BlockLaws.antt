-- Laws of blocks. Assumes nothing.
use Rattle.std.specs.Prelude.{◌≡◌, refl, Bool, true, false, cond, List, [], ◌∷◌, ◌++◌, ℕ, suc, ◌+◌, ◌<◌, length, get_or, replicate, eqb}
use Rattle.std.proofs.Common.{ap, append-nil, arith, zero-add, add-one, eq-eqb, ne_eqb, eqb-true}
use Rattle.std.proofs.lemmas.Bool.{eqb-false}
use Rattle.rows.specs.Rows.{overlay}
use Rattle.frame.specs.Frame.{Good}
use Rattle.block.specs.declared.Block.{Block}
use Rattle.block.specs.declared.Block.TheVariants.{I, Ack, Nak, Deselect, Wtx, Unknown, Nothing}
use Rattle.block.specs.Block.{kind, whole, block_of, heard_block, block_bytes, bytes_in}

abbrev is_unknown : Block → Bool
is_unknown Unknown = true
is_unknown (I n chained) = false
is_unknown (Ack n) = false
is_unknown (Nak n) = false
is_unknown Deselect = false
is_unknown (Wtx v) = false
is_unknown Nothing = false

-- what an end sends the other reads as the same block
pub read_back_law : (b : Block) (p : List ℕ) → heard_block (Good (block_bytes b p)) ≡ cond (is_unknown b) Nothing b
unfolding kind
read_back_law (I true true) p = refl
read_back_law (I true false) p = refl
read_back_law (I false true) p = refl
read_back_law (I false false) p = refl
read_back_law (Ack true) p = refl
read_back_law (Ack false) p = refl
read_back_law (Nak true) p = refl
read_back_law (Nak false) p = refl
read_back_law Deselect p = refl
read_back_law (Wtx v) p = refl
read_back_law Unknown p = refl
read_back_law Nothing p = refl

-- every other first byte begins no block
pub kind_other : (f : ℕ) → (f ≡ 0x02 → ⊥) → (f ≡ 0x03 → ⊥) → (f ≡ 0x12 → ⊥) → (f ≡ 0x13 → ⊥) → (f ≡ 0xA2 → ⊥) → (f ≡ 0xA3 → ⊥) → (f ≡ 0xB2 → ⊥) → (f ≡ 0xB3 → ⊥) → (f ≡ 0xC2 → ⊥) → (f ≡ 0xF2 → ⊥) → kind f ≡ Unknown
unfolding kind
kind_other f a b c d e g h i j k =
    rw (ne_eqb f 0x02 a, ne_eqb f 0x03 b, ne_eqb f 0x12 c, ne_eqb f 0x13 d, ne_eqb f 0xA2 e, ne_eqb f 0xA3 g, ne_eqb f 0xB2 h, ne_eqb f 0xB3 i, ne_eqb f 0xC2 j, ne_eqb f 0xF2 k)

-- the block of bytes by how many they are
pub block_none : (l : List ℕ) → length l ≡ 0 → Nothing ≡ block_of l
block_none [] e = refl
block_none (f ∷ p) e = absurd (omega arith)

pub block_one : (l : List ℕ) → length l ≡ 1 → whole (kind (get_or l 0 0)) true false 0 ≡ block_of l
block_one [] e = absurd (omega arith)
block_one (f ∷ []) e = refl
block_one (f ∷ x ∷ p) e = absurd (omega arith)

pub block_more : (l : List ℕ) → 1 < length l → whole (kind (get_or l 0 0)) false (eqb (length l) 2) (get_or l 1 0) ≡ block_of l
block_more [] h = absurd (omega arith)
block_more (f ∷ []) h = absurd (omega arith)
block_more (f ∷ x ∷ p) h = rw (ne_eqb (length (x ∷ p)) 0 (λ e. omega arith), two (length (x ∷ p)))
  where
    two : (n : ℕ) → eqb (suc n) 2 ≡ eqb n 1
    two n = go (eqb n 1) refl
      where
        go : (t : Bool) → eqb n 1 ≡ t → eqb (suc n) 2 ≡ t
        go true e = eq-eqb (suc n) 2 (ap suc (eqb-true n 1 e))
        go false e = ne_eqb (suc n) 2 (λ k. eqb-false n 1 e (omega arith))

-- a payload behind a first byte
pub bytes_behind : (f : ℕ) (p : List ℕ) → record { bytes = f ∷ (overlay (replicate 255 0) 0 p ++ []); count = length p + 1 } ≡ bytes_in (f ∷ p)
unfolding overlay bytes_in
bytes_behind f p = rw (append-nil, zero-add, zero-add, add-one)
