-- A standard frame, whole or cut, has bits only, and no whole byte of it has wrong parity. Assumes nothing.
use Rattle.std.specs.Prelude.{◌≡◌, refl, ℕ, zero, suc, ◌+◌, ◌-◌, ◌/◌, ◌≤◌, ◌<◌, ◌*◌, List, [], ◌∷◌, ◌++◌, length, take, drop, ltb}
use Rattle.std.proofs.Common.{sym, ◌∙◌, append_assoc, length-append, length-take, drop_at, drop-drop, ltb-true, ltb-false, arith}
use Rattle.std.proofs.Math.Path.{ap}
use mathlib.Core.Bool.{Bool, true, false, not, ◌&&◌, ◌||◌}
use Rattle.std.proofs.Math.ListN.{get_or}
use Rattle.std.proofs.Math.Seq.{take_at, get_or_at, take-append-add, take-nil, take-length}
use Rattle.rows.specs.CleanLaws.{bits_clean, eqb_same}
use Rattle.parity.specs.BitLaws.{length_bits, bits_bits}
use Rattle.parity.specs.Bits.{bits_of, odd}
use Rattle.frame.specs.Frame.{standard, wrong_byte, faulty, air_byte}
use Rattle.frame.proofs.FrameLaws.{length_air_byte}
use Rattle.frame.proofs.WrongLaws.{faulty_none, faulty_step}

-- some whole byte of a row has wrong parity
unfoldable pub whole_faulty : List ℕ → Bool
whole_faulty r = faulty (length r / 9) r

faulty_byte : (b n : ℕ) (S : List ℕ) → faulty (suc n) (air_byte b ++ S) ≡ faulty n S
faulty_byte b n S =
    rw (faulty_step n (air_byte b ++ S), drop_at (air_byte b) S 9 (length_air_byte b), front, mark, bits_clean (bits_of 8 b) (bits_bits 8 b), eqb_same (odd (bits_of 8 b)))
  where
    front : take 8 (air_byte b ++ S) ≡ bits_of 8 b
    front = unfold air_byte in ap (take 8) (append_assoc (bits_of 8 b) (odd (bits_of 8 b) ∷ []) S) ∙ take_at (bits_of 8 b) (odd (bits_of 8 b) ∷ S) 8 (length_bits 8 b)

    mark : get_or (air_byte b ++ S) 8 0 ≡ odd (bits_of 8 b)
    mark = unfold air_byte in ap (λ r. get_or r 8 0) (append_assoc (bits_of 8 b) (odd (bits_of 8 b) ∷ []) S) ∙ get_or_at (bits_of 8 b) (odd (bits_of 8 b)) S 0 8 (length_bits 8 b)

pub faulty_cut : (l : List ℕ) (m : ℕ) → whole_faulty (take m (standard l)) ≡ false
unfolding whole_faulty standard
faulty_cut [] m = rw take-nil (faulty_none [])
faulty_cut (b ∷ l) m = go (ltb m 9) refl (faulty_cut l (m - 9))
  where
    S : List ℕ
    S = standard l

    go : (t : Bool) → ltb m 9 ≡ t → whole_faulty (take (m - 9) S) ≡ false → whole_faulty (take m (air_byte b ++ S)) ≡ false
    go true e ih =
        let k : m < 9 = ltb-true m 9 e in
        let z : length (take m (air_byte b ++ S)) / 9 ≡ 0 = rw length-take (omega arith) in
        rw z (faulty_none (take m (air_byte b ++ S)))
    go false e ih =
        let k : 9 ≤ m = ltb-false m 9 e in
        let n : m ≡ length (air_byte b) + (m - 9) = rw length_air_byte (omega arith) in
        let r : take m (air_byte b ++ S) ≡ air_byte b ++ take (m - 9) S = ap (λ i. take i (air_byte b ++ S)) n ∙ take-append-add (air_byte b) S (m - 9) in
        let d : length (air_byte b ++ take (m - 9) S) / 9 ≡ suc (length (take (m - 9) S) / 9) = rw (length-append, length_air_byte) (omega arith) in
        rw (r, d, faulty_byte b (length (take (m - 9) S) / 9) (take (m - 9) S)) ih

pub faulty_standard : (l : List ℕ) → whole_faulty (standard l) ≡ false
faulty_standard l = ap whole_faulty (sym (take-length (standard l))) ∙ faulty_cut l (length (standard l))

-- ---- bytes that are passed over

or_false : (a b : Bool) → (a || b) ≡ false → b ≡ false
or_false true b e = absurd (mathlib.Core.Bool.true≢false e)
or_false false b e = e

-- bytes that are passed over
pub faulty_drop : (n i : ℕ) (w : List ℕ) → faulty n w ≡ false → faulty (n - i) (drop (9 * i) w) ≡ false
faulty_drop n zero w e = let a : n - 0 ≡ n = omega arith in rw a e
faulty_drop zero (suc i) w e = let a : 0 - suc i ≡ 0 = omega arith in rw a (faulty_none (drop (9 * suc i) w))
faulty_drop (suc n) (suc i) w e =
    let a : suc n - suc i ≡ n - i = omega arith in
    let b : 9 * suc i ≡ 9 + 9 * i = omega arith in
    rw (a, b, ← drop-drop (9 * i) 9 w) (faulty_drop n i (drop 9 w) (or_false (wrong_byte w) (faulty n (drop 9 w)) (sym (faulty_step n w) ∙ e)))
