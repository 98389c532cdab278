-- A level comes next: what the path has of it. Assumes nothing.
use Rattle.std.specs.Prelude.{◌≡◌, refl, ℕ, zero, suc, ◌+◌, ◌-◌, ◌*◌, ◌≤◌, ◌<◌, min, Bool, true, false, cond, List, [], ◌∷◌, ◌++◌, length, take, drop, get_or, set, replicate, ltb}
use Rattle.std.proofs.Common.{sym, ap, ◌∙◌, length-take, length-drop, take_all, drop-drop, ltb-false, arith}
use Rattle.std.proofs.Math.Nat.{zero-min, min-zero, suc-min-suc, min-le_right}
use Rattle.std.proofs.lemmas.List.{length-map}
use Rattle.std.proofs.Math.ListN.{get_or-map}
use Rattle.rows.specs.ListLaws.{all_take_law, all_drop, all_append}
use Rattle.rows.specs.Rows.{clean, fill, overlay, Bits}
use Rattle.rows.specs.CleanLaws.{bits_clean}
use Rattle.rows.proofs.RowLaws.{overlay_copy}
use Rattle.parity.specs.Bits.{unbits}
use Rattle.frame.specs.Frame.{bytes_of}
use Rattle.uid.specs.FillLaws.{fill_zeros}
use Rattle.uid.specs.Uid.{place}
use Rattle.selection.specs.PadLaws.{bytes_fill}
use Rattle.reader.specs.Reader.{reader, sends}
use Rattle.memory.specs.Memory.{bits, known, enters}
use Rattle.memory.specs.Stored.{path_of}
use Rattle.memory.specs.declared.Path.{Path}
use Rattle.uid.specs.declared.Level.{Level}
use Rattle.reader.specs.declared.Phase.{Phase}
use Rattle.reader.specs.declared.Phase.TheVariants.{AnticollisionSent, SelectSent}
use Rattle.reader.specs.declared.Reader.{Reader}
use Rattle.reader.specs.StepLaws.{drop_take}

pub bits_take : (k : ℕ) (w : List ℕ) → take k (bits w) ≡ bits (take k w)
unfolding bits
bits_take zero w = refl
bits_take (suc k) [] = refl
bits_take (suc k) (x ∷ w) = ap (λ l. cond (ltb 1 x) 1 x ∷ l) (bits_take k w)

bits_drop : (k : ℕ) (w : List ℕ) → drop k (bits w) ≡ bits (drop k w)
unfolding bits
bits_drop zero w = refl
bits_drop (suc k) [] = refl
bits_drop (suc k) (x ∷ w) = bits_drop k w

pub bits_append : (w u : List ℕ) → bits (w ++ u) ≡ bits w ++ bits u
unfolding bits
bits_append [] u = refl
bits_append (x ∷ w) u = ap (λ l. cond (ltb 1 x) 1 x ∷ l) (bits_append w u)

pub length_bits : (w : List ℕ) → length (bits w) ≡ length w
unfolding bits
length_bits w = rw length-map

pub bits_are : (w : List ℕ) → Bits (bits w)
unfolding bits
bits_are [] = tt
bits_are (x ∷ w) = (go (ltb 1 x) refl, bits_are w)
  where
    go : (b : Bool) → ltb 1 x ≡ b → cond b 1 x < 2
    go true e = omega arith
    go false e = omega (arith, ltb-false 1 x e)

bit_at : (w : List ℕ) (i : ℕ) → get_or (bits w) i 0 ≡ cond (ltb 1 (get_or w i 0)) 1 (get_or w i 0)
unfolding bits
bit_at w i = get_or-map (λ x. cond (ltb 1 x) 1 x) w i 0

none_taken : (k : ℕ) → ◌≡◌ {A = List ℕ} (take k []) []
none_taken zero = refl
none_taken (suc k) = refl

pub take_least : (k n : ℕ) (l : List ℕ) → take k (take n l) ≡ take (min k n) l
take_least zero n l = rw (zero-min n)
take_least (suc k) zero l = rw (min-zero (suc k))
take_least (suc k) (suc n) [] = sym (none_taken (min (suc k) (suc n)))
take_least (suc k) (suc n) (x ∷ l) = rw (suc-min-suc k n) (ap (λ t. x ∷ t) (take_least k n l))

-- a turn of the loop that copies the bits of a part of a path
pub part_turn : (s : List ℕ) (i : ℕ) → length s ≤ 40 → i < length s → set (overlay (replicate 40 0) 0 (take i (bits s))) i (cond (ltb 1 (get_or s i 0)) 1 (get_or s i 0)) ≡ overlay (replicate 40 0) 0 (take (i + 1) (bits s))
part_turn s i h l =
    let z : 0 + i ≡ i = omega arith in
    rw (z, bit_at) at (overlay_copy (replicate 40 0) 0 (bits s) i (omega arith) (omega (arith, length_bits s)))

module _ (row : List ℕ) (n at m : ℕ) (e : m ≡ min 40 (n - at)) where
  -- the bits of the level that begins at a place, of which m are known
  level_part : take 40 (drop at (bits (take n row))) ≡ bits (take m (drop at row))
  level_part =
      ap (take 40) (bits_drop at (take n row)) ∙ bits_take 40 (drop at (take n row))
      ∙ ap bits (ap (take 40) (drop_take at n row) ∙ take_least 40 (n - at) (drop at row) ∙ ap (λ k. take k (drop at row)) (sym e))

  module _ (h : length row ≡ 120) (k : n ≤ 120) where
    long_part : length (bits (take m (drop at row))) ≡ m
    long_part = rw (length_bits, length-take, length-drop) (omega (arith, e, min-le_right 40 (n - at)))

    pub part_done : (x s : List ℕ) (k i : ℕ) → k ≡ m → s ≡ take k (drop at row) → length s ≤ i → x ≡ overlay (replicate 40 0) 0 (take i (bits s)) → x ≡ fill 40 (take 40 (drop at (bits (take n row))))
    part_done x s k i a b l q =
        let c : s ≡ take m (drop at row) = b ∙ ap (λ k. take k (drop at row)) a in
        q ∙ ap (overlay (replicate 40 0) 0) (take_all i (bits s) (omega (arith, length_bits s))) ∙ fill_zeros 40 (bits s) ∙ ap (λ s. fill 40 (bits s)) c ∙ ap (fill 40) (sym level_part)

-- ---- five bytes

pub five_made : (e : List ℕ) (a b c d f : ℕ) → a ≡ unbits (take 8 (drop 0 e)) → b ≡ unbits (take 8 (drop 8 e)) → c ≡ unbits (take 8 (drop 16 e)) → d ≡ unbits (take 8 (drop 24 e)) → f ≡ unbits (take 8 (drop 32 e))
    → a ∷ b ∷ c ∷ d ∷ f ∷ [] ≡ bytes_of 5 e
unfolding bytes_of
five_made e a b c d f p q r s t = rw (p, q, r, s, t, drop-drop, drop-drop, drop-drop)

-- ---- a level begins

pub level_clean : (w : List ℕ) (at : ℕ) → clean (fill 40 (take 40 (drop at (bits w)))) ≡ true
unfolding fill
level_clean w at =
    bits_clean (fill 40 (take 40 (drop at (bits w))))
    (all_append (λ x. x < 2) (take 40 (drop at (bits w))) (replicate (40 - length (take 40 (drop at (bits w)))) 0) (all_take_law (λ x. x < 2) 40 (drop at (bits w)) (all_drop (λ x. x < 2) at (bits w) (bits_are w))) (zeros (40 - length (take 40 (drop at (bits w))))))
  where
    zeros : (n : ℕ) → Bits (replicate n 0)
    zeros zero = tt
    zeros (suc n) = (omega arith, zeros n)

pub made_enters : (l : Level) (r : Reader) (p : Path) (at m : ℕ) (five : List ℕ) (f : Phase) → length p.row ≡ 120 → p.known ≤ 120 → at ≡ 40 * place l → m ≡ min 40 (p.known - at)
    → five ≡ bytes_of 5 (fill 40 (take 40 (drop at (bits (path_of p))))) → f ≡ cond (ltb m 40) (AnticollisionSent l) (SelectSent l)
    → sends (reader f r.sweeps five m r.uid 0) ≡ enters l r (path_of p)
unfolding enters known path_of
made_enters l r p at m five f h k ea em e ef =
    let d : List ℕ = take 40 (drop at (bits (take p.known p.row))) in
    let n : length d ≡ m = ap length (level_part p.row p.known at m em) ∙ long_part p.row p.known at m em h k in
    let b : five ≡ bytes_of 5 d = e ∙ bytes_fill 5 40 d in
    rw (← ea, n, b, ef)
