-- How an ATS is read, byte by byte. Assumes nothing.
use Rattle.std.specs.Prelude.{◌≡◌, refl, false, cond, ◌&&◌, List, [], ◌∷◌, ℕ, suc, ◌+◌, ◌-◌, ◌%◌, ◌≤◌, length, take, get_or, replicate, eqb, ltb, leb, Ok, Err}
use Rattle.std.proofs.Common.{ap, arith}
use Rattle.rows.specs.Rows.{overlay, is_nil}
use Rattle.rows.proofs.RowLaws.{overlay_front, overlay_fits}
use Rattle.frame.specs.Frame.{Verdict, Good, Fault, read_crc}
use Rattle.frame.specs.Calls.{received, read_answer, good_bytes, bytes_after}
use Rattle.selection.specs.Selection.{at_most8, size}
use Rattle.selection.specs.Heard.{announced, ats_fits, ats_bytes, ats_of, read_ats}
use Rattle.refusal.specs.declared.Refusal.{Refusal}
use Rattle.refusal.specs.declared.Refusal.TheVariants.{Forbidden}

pub ats_none : (l : List ℕ) → length l ≡ 0 → ats_bytes l ≡ Err Forbidden
ats_none [] h = refl
ats_none (x ∷ l) h = absurd (omega arith)

pub ats_short : (l : List ℕ) → length l ≡ 1 → ats_bytes l ≡ cond (eqb (get_or l 0 0) 1) (Ok 2) (Err Forbidden)
ats_short [] h = absurd (omega arith)
ats_short (x ∷ []) h = refl
ats_short (x ∷ y ∷ l) h = absurd (omega arith)

-- with T0: the three tests
pub ats_is : (l : List ℕ) → (length l ≡ 0 → ⊥) → (length l ≡ 1 → ⊥)
    → ats_bytes l ≡ cond (eqb (get_or l 0 0) (length l) && ltb (get_or l 1 0) 0x80 && leb (announced (get_or l 1 0)) (length l - 2)) (Ok (at_most8 (get_or l 1 0 % 16))) (Err Forbidden)
unfolding ats_fits
ats_is [] a b = absurd (a refl)
ats_is (x ∷ []) a b = absurd (b refl)
ats_is (x ∷ y ∷ m) a b =
    let e : 2 + length m ≡ suc (suc (length m)) = omega arith in
    let f : suc (suc (length m)) - 2 ≡ length m = omega arith in
    rw (e, f)

-- what the frame's reader hands over
pub ats_fault : (own : ℕ) (h : List ℕ) (e : Refusal) → is_nil h ≡ false → read_answer 256 (read_crc 3 (size own) h) ≡ Err e → read_ats own h ≡ Err e
unfolding read_ats read_answer
ats_fault own h e n q = rw n (go (read_crc 3 (size own) h) q)
  where
    go : (v : Verdict) → received v ≡ Err e → ats_of v ≡ Err e
    go (Good l) q = absurd (never l q)
      where
        never : (l : List ℕ) → Ok (length l) ≡ Err e → ⊥
        never l q = let z : ◌≡◌ {A = ℕ} 0 1 = cc in omega arith
    go (Fault x) q = let z : x ≡ e = cc in ap Err z

pub ats_good : (own : ℕ) (h bytes : List ℕ) (n : ℕ) → is_nil h ≡ false → read_answer 256 (read_crc 3 (size own) h) ≡ Ok n
    → bytes ≡ bytes_after (Ok n) (read_crc 3 (size own) h) (replicate 256 0) → ats_bytes (take n bytes) ≡ read_ats own h
unfolding read_ats read_answer
ats_good own h bytes n k q e = rw k (go (read_crc 3 (size own) h) q e)
  where
    go : (v : Verdict) → received v ≡ Ok n → bytes ≡ overlay (replicate 256 0) 0 (good_bytes v) → ats_bytes (take n bytes) ≡ ats_of v
    go (Good l) q e =
        let z : length l ≡ n = cc in
        let t : take n bytes ≡ l = rw (e, ← z) (overlay_front (replicate 256 0) l) in
        ap ats_bytes t
    go (Fault x) q e = absurd (never q)
      where
        never : Err x ≡ Ok n → ⊥
        never q = let z : ◌≡◌ {A = ℕ} 0 1 = cc in omega arith

pub ats_count : (own : ℕ) (h bytes : List ℕ) (n : ℕ) → read_answer 256 (read_crc 3 (size own) h) ≡ Ok n
    → bytes ≡ bytes_after (Ok n) (read_crc 3 (size own) h) (replicate 256 0) → n ≤ length bytes
unfolding read_answer
ats_count own h bytes n q e = go (read_crc 3 (size own) h) q e
  where
    go : (v : Verdict) → received v ≡ Ok n → bytes ≡ overlay (replicate 256 0) 0 (good_bytes v) → n ≤ length bytes
    go (Good l) q e = let z : length l ≡ n = cc in rw (e, ← z) (overlay_fits (replicate 256 0) l)
    go (Fault x) q e = absurd (never q)
      where
        never : Err x ≡ Ok n → ⊥
        never q = let z : ◌≡◌ {A = ℕ} 0 1 = cc in omega arith
