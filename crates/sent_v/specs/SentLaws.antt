-- Laws for the code that writes requests. Assumes nothing.
use Rattle.std.specs.Prelude.{◌≡◌, refl, ℕ, zero, suc, ◌+◌, ◌-◌, ◌*◌, ◌≤◌, ◌<◌, true, List, [], ◌∷◌, ◌++◌, length, take, drop, replicate}
use Rattle.std.proofs.Common.{sym, ap, ◌∙◌, zero-add, arith, append_assoc, append-nil, length-append, length-take, take_at}
use Rattle.std.proofs.lemmas.List.{length-replicate}
use Rattle.std.proofs.Math.Seq.{drop-append-add}
use Rattle.rows.specs.Rows.{overlay, fill, clean, Bits, Bytes}
use Rattle.rows.proofs.RowLaws.{overlay_next, overlay_all}
use Rattle.rows.specs.ListLaws.{all_append, all_take_law}
use Rattle.rows.specs.CleanLaws.{bits_clean}
use Rattle.parity.specs.Bits.{bits_of}
use Rattle.parity.specs.BitLaws.{bits_bits}
use Rattle.frame.specs.Frame.{air_bits, bytes_of}
use Rattle.frame.specs.ByteLaws.{length_air_bits, air_bits_append, bits_air_bits, length_bytes}

-- ---- three parts

pub parts_put : (d a b e o₁ o₂ o₃ : List ℕ) → 8 * (length a + length b + length e + 2) ≤ length d → o₁ ≡ overlay d 0 (air_bits a)
    → o₂ ≡ overlay o₁ (8 * length a) (air_bits b) → o₃ ≡ overlay o₂ (8 * (length a + length b)) (air_bits e) → o₃ ≡ overlay d 0 (air_bits (a ++ (b ++ e)))
parts_put d a b e o₁ o₂ o₃ h e₁ e₂ e₃ =
    let n₁ : 8 * length a ≡ 0 + length (air_bits a) = omega (arith, length_air_bits a) in
    let n₂ : 8 * (length a + length b) ≡ 0 + length (air_bits a ++ air_bits b) = rw (length-append, length_air_bits, length_air_bits) (omega arith) in
    let p₂ : o₂ ≡ overlay d 0 (air_bits a ++ air_bits b) =
    e₂ ∙ rw (e₁, n₁) (overlay_next d 0 (air_bits a) (air_bits b) (omega (arith, length_air_bits a, length_air_bits b))) in
    let p₃ : o₃ ≡ overlay d 0 (air_bits a ++ air_bits b ++ air_bits e) =
    e₃ ∙ rw (p₂, n₂) (overlay_next d 0 (air_bits a ++ air_bits b) (air_bits e) (rw (length-append, length_air_bits, length_air_bits, length_air_bits) (omega arith))) in
    p₃ ∙ ap (overlay d 0) (append_assoc (air_bits a) (air_bits b) (air_bits e) ∙ ap (λ l. air_bits a ++ l) (sym (air_bits_append b e)) ∙ sym (air_bits_append a (b ++ e)))

pub parts_length : (a b e : List ℕ) → length (a ++ (b ++ e)) ≡ length a + length b + length e
parts_length a b e = rw (length-append, length-append) (omega arith)

pub parts_bytes : (a b e : List ℕ) → Bytes a → Bytes b → Bytes e → Bytes (a ++ (b ++ e))
parts_bytes a b e x y z = all_append (λ v. v < 256) a (b ++ e) x (all_append (λ v. v < 256) b e y z)

-- ---- masks

zeros : (n k : ℕ) → drop k (replicate {A = ℕ} n 0) ≡ replicate (n - k) 0
zeros n zero = let e : n - 0 ≡ n = omega arith in rw e
zeros zero (suc k) = let e : 0 - suc k ≡ 0 = omega arith in rw e
zeros (suc n) (suc k) = let e : suc n - suc k ≡ n - k = omega arith in rw e (zeros n k)

-- a part written at the front of zeros
pub cut_is : (l d : List ℕ) → d ≡ overlay (replicate 64 0) 0 l → d ≡ fill 64 l
unfolding overlay fill
cut_is l d e = e ∙ ap (λ r. l ++ r) (rw zero-add (zeros 64 (length l)))

-- .. and another behind it
pub grown_is : (l s d : List ℕ) → d ≡ overlay (fill 64 l) (length l) s → d ≡ fill 64 (l ++ s)
unfolding overlay fill
grown_is l s d e =
    let k : 64 - length l - length s ≡ 64 - (length l + length s) = omega arith in
    e ∙ rw (take_at l (replicate (64 - length l) 0) (length l) refl, drop-append-add l (replicate (64 - length l) 0) (length s), zeros (64 - length l) (length s), length-append, k)
    (sym (append_assoc l s (replicate (64 - (length l + length s)) 0)))

pub fill_clean : (l : List ℕ) → Bits l → clean (fill 64 l) ≡ true
unfolding fill
fill_clean l b = bits_clean (l ++ replicate (64 - length l) 0) (all_append (λ x. x < 2) l (replicate (64 - length l) 0) b (none (64 - length l)))
  where
    none : (n : ℕ) → Bits (replicate n 0)
    none zero = tt
    none (suc n) = (omega arith, none n)

pub cut_bits : (mask : List ℕ) (len : ℕ) → Bits (take len (air_bits mask))
cut_bits mask len = all_take_law (λ x. x < 2) len (air_bits mask) (bits_air_bits mask)

pub grown_bits : (mask : List ℕ) (len slot : ℕ) → Bits (take len (air_bits mask) ++ bits_of 4 slot)
grown_bits mask len slot = all_append (λ x. x < 2) (take len (air_bits mask)) (bits_of 4 slot) (cut_bits mask len) (bits_bits 4 slot)

-- a slot's four bits
pub four_bits : (s : ℕ) (d : List ℕ) → d ≡ bits_of 8 s → take 4 d ≡ bits_of 4 s
unfolding bits_of
four_bits s d e = rw e

-- eight bytes written over eight
pub whole_bytes_law : (l d : List ℕ) → d ≡ overlay (replicate 8 0) 0 (bytes_of 8 l) → d ≡ bytes_of 8 l
whole_bytes_law l d e = e ∙ overlay_all (replicate 8 0) (bytes_of 8 l) (rw (length-replicate, length_bytes))

-- ---- a head

pub head_put : (a b : ℕ) (uid d : List ℕ) → length uid ≡ 8 → d ≡ overlay (a ∷ b ∷ 0 ∷ 0 ∷ 0 ∷ 0 ∷ 0 ∷ 0 ∷ 0 ∷ 0 ∷ []) 2 uid → d ≡ a ∷ b ∷ uid
unfolding overlay
head_put a b uid d n e = e ∙ rw n (ap (λ l. a ∷ b ∷ l) (append-nil uid))

-- a mask's bits b, its first len bits with zeros behind them, and four bits of a slot written at len
pub grown_read : (mask : List ℕ) (len slot : ℕ) (c s d : List ℕ) → length mask ≡ 8 → len ≤ 60 → c ≡ fill 64 (take len (air_bits mask)) → s ≡ bits_of 8 slot
    → d ≡ overlay c len (take 4 s) → d ≡ fill 64 (take len (air_bits mask) ++ bits_of 4 slot)
grown_read mask len slot c s d n h ec es e =
    let l : List ℕ = take len (air_bits mask) in
    let k : len ≡ length l = rw (length-take, length_air_bits) (omega arith) in
    grown_is l (bits_of 4 slot) d (e ∙ rw (ec, four_bits slot s es) (ap (λ i. overlay (fill 64 l) i (bits_of 4 slot)) k))
