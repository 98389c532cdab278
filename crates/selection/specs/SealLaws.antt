-- Bits with odd parity behind each whole byte: what a standard frame is over the bits of its bytes, how such a row is cut, and that it
-- tells its bits. Assumes nothing.
use Rattle.std.specs.Prelude.{◌≡◌, ℕ, zero, suc, ◌+◌, ◌-◌, ◌*◌, ◌≤◌, ◌<◌, Bool, true, false, cond, List, [], ◌∷◌, ◌++◌, length, take, drop, ltb}
use Rattle.std.proofs.Math.Path.{refl}
use Rattle.std.proofs.Common.{sym, ap₂, ◌∙◌, length-append, length-take, length-drop, take-append-drop, take_at, drop_at, take-take, ltb-true, ltb-false, lt-ltb, le-ltb, arith}
use Rattle.std.proofs.lemmas.List.{take-append-le, drop-append-le}
use Rattle.std.proofs.Math.Seq.{take-append-add, take-append_seam}
use Rattle.rows.specs.EachLaws.{parts_equal}
use Rattle.rows.specs.ListLaws.{is_nil_law}
use Rattle.parity.specs.BitLaws.{length_bits}
use Rattle.parity.specs.Bits.{bits_of, odd}
use Rattle.frame.specs.Frame.{air_bits, standard, air_byte}
use Rattle.selection.specs.Selection.{cut}

-- at most n bytes of bits, with parity
unfoldable pub seal : ℕ → List ℕ → List ℕ
seal zero d = []
seal (suc n) d = cond (ltb (length d) 8) d (take 8 d ++ odd (take 8 d) ∷ [] ++ seal n (drop 8 d))

-- one byte with parity
abbrev pub sealed : List ℕ → List ℕ
sealed d = take 8 d ++ odd (take 8 d) ∷ []

pub seal_byte : (n : ℕ) (d : List ℕ) → 8 ≤ length d → seal (suc n) d ≡ sealed d ++ seal n (drop 8 d)
unfolding seal
seal_byte n d h = rw (le-ltb (length d) 8 h)

seal_part : (n : ℕ) (d : List ℕ) → length d < 8 → seal (suc n) d ≡ d
unfolding seal
seal_part n d h = rw (lt-ltb (length d) 8 h)

pub length_sealed : (d : List ℕ) → 8 ≤ length d → length (sealed d) ≡ 9
length_sealed d h = rw (length-append, length-take) (omega arith)

pub standard_seal : (l : List ℕ) → standard l ≡ seal (length l) (air_bits l)
unfolding standard air_byte air_bits
standard_seal [] = unfold seal in refl
standard_seal (b ∷ l) =
    rw (
      seal_byte (length l) (bits_of 8 b ++ air_bits l) (rw (length-append, length_bits) (omega arith)),
      take_at (bits_of 8 b) (air_bits l) 8 (length_bits 8 b),
      drop_at (bits_of 8 b) (air_bits l) 8 (length_bits 8 b),
      ← standard_seal l,
    )

pub length_seal : (n : ℕ) (d : List ℕ) → length d ≡ 8 * n → length (seal n d) ≡ 9 * n
length_seal zero d h = unfold seal in refl
length_seal (suc n) d h =
    rw (seal_byte n d (omega arith), length-append (sealed d) (seal n (drop 8 d)), length_sealed d (omega arith), length_seal n (drop 8 d) (rw length-drop (omega arith))) (omega arith)

-- the first k bits with their parity
pub take_seal : (n : ℕ) (K x : List ℕ) → length K + length x ≡ 8 * n → take (cut (length K)) (seal n (K ++ x)) ≡ seal n K
take_seal zero [] x h = unfold seal in refl
take_seal zero (y ∷ K) x h = absurd (omega arith)
take_seal (suc n) K x h = go (ltb (length K) 8) refl (λ h'. take_seal n (drop 8 K) x h')
  where
    d : List ℕ
    d = K ++ x

    hd : 8 ≤ length d
    hd = rw length-append (omega arith)

    go : (b : Bool) → ltb (length K) 8 ≡ b → (length (drop 8 K) + length x ≡ 8 * n → take (cut (length (drop 8 K))) (seal n (drop 8 K ++ x)) ≡ seal n (drop 8 K))
        → take (cut (length K)) (seal (suc n) d) ≡ seal (suc n) K
    go true e ih =
        let k : length K < 8 = ltb-true (length K) 8 e in
        let c : cut (length K) ≡ length K = omega arith in
        rw (
          seal_byte n d hd,
          seal_part n K k,
          c,
          take-append-le (length K) (sealed d) (seal n (drop 8 d)) (rw (length_sealed d hd) (omega arith)),
          take-append-le (length K) (take 8 d) (odd (take 8 d) ∷ []) (rw length-take (omega (arith, hd))),
          take-take (length K) 8 d (omega arith),
        ) (take-append_seam K x)
    go false e ih =
        let k : 8 ≤ length K = ltb-false (length K) 8 e in
        let l : length (drop 8 K) ≡ length K - 8 = length-drop 8 K in
        let c : cut (length K) ≡ length (sealed d) + cut (length (drop 8 K)) = rw (length_sealed d hd) (omega arith) in
        rw (
          seal_byte n d hd,
          c,
          take-append-add (sealed d) (seal n (drop 8 d)) (cut (length (drop 8 K))),
          seal_byte n K k,
          drop-append-le 8 K x k,
          take-append-le 8 K x k,
          ih (omega arith),
        )

-- such rows tell the bits
pub seal_same : (n : ℕ) (K L : List ℕ) → length K ≡ length L → length K ≤ 8 * n → seal n K ≡ seal n L → K ≡ L
seal_same zero K L h k e = is_nil_law K (omega arith) ∙ sym (is_nil_law L (omega arith))
seal_same (suc n) K L h k e = go (ltb (length K) 8) refl (λ h' k' e'. seal_same n (drop 8 K) (drop 8 L) h' k' e')
  where
    go : (b : Bool) → ltb (length K) 8 ≡ b → (length (drop 8 K) ≡ length (drop 8 L) → length (drop 8 K) ≤ 8 * n → seal n (drop 8 K) ≡ seal n (drop 8 L) → drop 8 K ≡ drop 8 L) → K ≡ L
    go true b ih =
        let l : length K < 8 = ltb-true (length K) 8 b in
        sym (seal_part n K l) ∙ e ∙ seal_part n L (omega arith)
    go false b ih =
        let l : 8 ≤ length K = ltb-false (length K) 8 b in
        let s : sealed K ++ seal n (drop 8 K) ≡ sealed L ++ seal n (drop 8 L) = sym (seal_byte n K l) ∙ e ∙ seal_byte n L (omega arith) in
        let p : (sealed K ≡ sealed L) × (seal n (drop 8 K) ≡ seal n (drop 8 L)) = parts_equal 9 (sealed K) (sealed L) _ _ (length_sealed K l) (length_sealed L (omega arith)) s in
        let q : (take 8 K ≡ take 8 L) × (odd (take 8 K) ∷ [] ≡ odd (take 8 L) ∷ []) = parts_equal 8 (take 8 K) (take 8 L) _ _ (rw length-take (omega arith)) (rw length-take (omega arith)) p.0 in
        sym (take-append-drop 8 K) ∙ ap₂ ◌++◌ q.0 (ih (rw (length-drop 8 K, length-drop 8 L) (omega arith)) (rw length-drop (omega arith)) p.1) ∙ take-append-drop 8 L
