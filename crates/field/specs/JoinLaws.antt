-- Laws of two rows sent together, the one written over the front of the other: what the loop in crate field's `join` does. Assumes nothing.
use Rattle.std.specs.Prelude.{◌≡◌, refl, ℕ, zero, suc, ◌+◌, ◌≤◌, ◌<◌, max, Bool, true, false, cond, List, [], ◌∷◌, ◌++◌, length, take, drop, get_or, set, ltb}
use Rattle.std.proofs.Common.{sym, ap, ◌∙◌, not-suc-le-zero, zero-add, take-append-drop, get_or-take, drop-cons, length-take-le, lt-ltb, le-ltb, ltb-true, arith}
use Rattle.std.proofs.Math.Seq.{take-length}
use Rattle.std.proofs.lemmas.List.{get_or_at}
use Rattle.std.proofs.Math.Dec.{leb-suc-suc}
use Rattle.rows.specs.Rows.{overlay}
use Rattle.rows.proofs.RowLaws.{overlay_copy}
use Rattle.field.specs.Merge.{meet, join}

-- ---- how long they are together

pub length_join : (a s : List ℕ) → length (join a s) ≡ max (length s) (length a)
unfolding join
length_join [] s = omega arith
length_join (x ∷ a) [] = omega arith
length_join (x ∷ a) (y ∷ s) = omega (arith, length_join a s)

pub length_join_most : (a s : List ℕ) → length s ≤ length a → length (join a s) ≡ length a
length_join_most a s h = omega (arith, length_join a s)

pub length_join_more : (a s : List ℕ) → length a ≤ length s → length (join a s) ≡ length s
length_join_more a s h = omega (arith, length_join a s)

-- no shorter than either
length_join_least : (a s : List ℕ) → length a ≤ length (join a s)
length_join_least a s = omega (arith, length_join a s)

pub length_join_other : (a s : List ℕ) → length s ≤ length (join a s)
length_join_other a s = omega (arith, length_join a s)

-- ---- a turn of the loop

bit_join : (a s : List ℕ) (i : ℕ) → i < length a → get_or (join a s) i 0 ≡ cond (ltb i (length s)) (meet (get_or a i 0) (get_or s i 0)) (get_or a i 0)
unfolding join
bit_join [] s i h = absurd (not-suc-le-zero h)
bit_join (x ∷ a) [] i h = rw (le-ltb i 0 (omega arith))
bit_join (x ∷ a) (y ∷ s) zero h = rw (lt-ltb 0 (suc (length s)) (omega arith))
bit_join (x ∷ a) (y ∷ s) (suc i) h = rw (leb-suc-suc (suc i) (length s)) (bit_join a s i (omega arith))

-- a row written at the front of a row
pub front : (d s : List ℕ) → overlay d 0 s ≡ s ++ drop (length s) d
unfolding overlay
front d s = rw zero-add

-- what stands behind it is untouched
behind : (d s : List ℕ) (i : ℕ) → length s ≡ i → i < length d → get_or (overlay d 0 s) i 0 ≡ get_or d i 0
behind d s i e h = rw (front, e, drop-cons d i 0 h) (get_or_at s (get_or d i 0) (drop (suc i) d) 0 i e)

-- the row d, of which b bits are heard so far, and the answer a
module _ (d : List ℕ) (b : ℕ) (a : List ℕ) (hb : b ≤ length d) (ha : length a ≤ length d) where
  pub join_turn : (i : ℕ) → i < length a
      → set (overlay d 0 (take i (join a (take b d)))) i
      (cond (ltb i b) (meet (get_or a i 0) (get_or (overlay d 0 (take i (join a (take b d)))) i 0)) (get_or a i 0))
      ≡ overlay d 0 (take (i + 1) (join a (take b d)))
  join_turn i h =
      let J : List ℕ = join a (take b d) in
      let e : length (take i J) ≡ i = length-take-le i J (omega (arith, length_join_least a (take b d))) in
      let bit : get_or J i 0 ≡ cond (ltb i b) (meet (get_or a i 0) (get_or d i 0)) (get_or a i 0) =
      bit_join a (take b d) i h ∙ rw (length-take-le b d hb) (go (ltb i b) refl) in
      rw (behind d (take i J) i e (omega arith), ← bit) (rw zero-add at (overlay_copy d 0 J i (omega arith) (omega (arith, length_join_least a (take b d)))))
    where
      go : (t : Bool) → ltb i b ≡ t → cond t (meet (get_or a i 0) (get_or (take b d) i 0)) (get_or a i 0) ≡ cond t (meet (get_or a i 0) (get_or d i 0)) (get_or a i 0)
      go true e = ap (meet (get_or a i 0)) (get_or-take b d i 0 (ltb-true i b e))
      go false e = refl

-- ---- and its end

-- a row whose front is written over with itself
over_self : (b : ℕ) (d : List ℕ) → b ≤ length d → d ≡ take b d ++ drop (length (take b d)) d
over_self b d h = rw (length-take-le b d h, take-append-drop)

done : (d : List ℕ) (b : ℕ) (a : List ℕ) → b ≤ length d → length a ≤ length d
    → take (length a) (join a (take b d)) ++ drop (length (take (length a) (join a (take b d)))) d
    ≡ join a (take b d) ++ drop (length (join a (take b d))) d
unfolding join
done d b [] h k = over_self b d h
done [] b (x ∷ a) h k = absurd (not-suc-le-zero k)
done (y ∷ d) zero (x ∷ a) h k = rw (take-length a)
done (y ∷ d) (suc b) (x ∷ a) h k = ap (λ r. meet x y ∷ r) (done d b a (omega arith) (omega arith))

pub join_done : (d : List ℕ) (b : ℕ) (a : List ℕ) → b ≤ length d → length a ≤ length d
    → overlay d 0 (take (length a) (join a (take b d))) ≡ overlay d 0 (join a (take b d))
join_done d b a h k = front d (take (length a) (join a (take b d))) ∙ done d b a h k ∙ sym (front d (join a (take b d)))
