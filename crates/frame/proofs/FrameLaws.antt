-- Laws of frames: what is written is read back, and what is read is what was written. Assumes nothing.
use Rattle.std.specs.Prelude.{◌≡◌, ℕ, zero, suc, ◌+◌, ◌-◌, ◌*◌, ◌/◌, ◌%◌, ◌≤◌, ◌<◌, Bool, true, false, cond, not, ◌&&◌, ◌||◌, List, [], ◌∷◌, ◌++◌, length, take, drop, get_or, eqb, leb}
use Rattle.std.proofs.Math.Path.{refl, sym}
use Rattle.std.proofs.Common.{ap, ◌∙◌, true≢false, append_assoc, append-nil, length-append, length-take, length-drop, take_at, drop_at, length-take-le, eqb-true, leb-true, eq-eqb, le-leb, arith}
use Rattle.std.proofs.Math.Bool.{and-false}
use Rattle.std.proofs.Math.Seq.{split_at}
use Rattle.rows.specs.Rows.{Bits, Bytes, fill, clean, same}
use Rattle.rows.specs.ListLaws.{both, same_sound, all_append, all_take_law, all_drop, is_nil_law}
use Rattle.rows.specs.CleanLaws.{bits_clean}
use Rattle.rows.specs.HeardLaws.{clean_bits, clean_take, clean_drop}
use Rattle.parity.specs.Bits.{bits_of, unbits, odd}
use Rattle.parity.specs.BitLaws.{length_bits, bits_bits, unbits_bits, bits_unbits, unbits_lt}
use Rattle.parity.specs.LoopLaws.{odd_bit}
use Rattle.crc.specs.Crc.{with_crc, crc_good}
use Rattle.crc.specs.CrcLaws.{length_with, with_bytes, take_with, good_with}
use Rattle.refusal.specs.declared.Refusal.TheVariants.{Length, Parity, Crc, Collision}
use Rattle.refusal.specs.Refusal.{giving, decline_if}
use Rattle.frame.specs.Frame.{short, air_byte, standard, data_of, bytes_of, first_wrong, faulty, whole_bytes, read_frame, without_crc, crc_checked, read_crc, Verdict, Good, Fault}
use Rattle.frame.specs.Calls.{read_short}
use Rattle.frame.specs.ByteLaws.{length_bytes}
use Rattle.frame.proofs.WrongLaws.{faulty_none, faulty_step}

-- ---- lengths

pub length_air_byte : (b : ℕ) → length (air_byte b) ≡ 9
unfolding air_byte bits_of
length_air_byte b = refl

pub length_standard : (l : List ℕ) → length (standard l) ≡ 9 * length l
unfolding standard
length_standard [] = refl
length_standard (b ∷ l) = rw (length-append, length_air_byte) (omega (arith, length_standard l))

pub standard_append : (l m : List ℕ) → standard (l ++ m) ≡ standard l ++ standard m
unfolding standard
standard_append [] m = refl
standard_append (b ∷ l) m = simp (standard_append l m, append_assoc)

-- ---- a received row, byte by byte

-- the first byte of a row, and the others
pub bytes_first : (n : ℕ) (r : List ℕ) → 8 ≤ length r → bytes_of (suc n) (data_of (suc n) r) ≡ unbits (take 8 r) ∷ bytes_of n (data_of n (drop 9 r))
unfolding bytes_of data_of
bytes_first n r h =
    let e : length (take 8 r) ≡ 8 = length-take-le 8 r h in
    rw (take_at (take 8 r) (data_of n (drop 9 r)) 8 e, drop_at (take 8 r) (data_of n (drop 9 r)) 8 e)

-- a byte on the air at the front of a row: its bits, its parity, and the rest
take_air : (b : ℕ) (r : List ℕ) → take 8 (air_byte b ++ r) ≡ bits_of 8 b
unfolding air_byte bits_of
take_air b r = refl

parity_air : (b : ℕ) (r : List ℕ) → get_or (air_byte b ++ r) 8 0 ≡ odd (bits_of 8 b)
unfolding air_byte bits_of
parity_air b r = refl

drop_air : (b : ℕ) (r : List ℕ) → drop 9 (air_byte b ++ r) ≡ r
unfolding air_byte bits_of
drop_air b r = refl

-- the bits of a row's number are the row
pub bits_whole : (n : ℕ) (d : List ℕ) → Bits d → length d ≡ n → bits_of n (unbits d) ≡ d
unfolding fill
bits_whole n d b e = let z : n - length d ≡ 0 = omega arith in rw (bits_unbits n d b (omega arith), z, append-nil)

-- ---- the tests on a received row

whole_true : (least most k n : ℕ) → n ≡ 9 * k → least ≤ k → k ≤ most → whole_bytes least most n ≡ true
unfolding whole_bytes
whole_true least most k n e a b =
    let d : n / 9 ≡ k = omega arith in
    rw (d, eq-eqb (n % 9) 0 (omega arith), le-leb least k a, le-leb k most b)

-- the size of a row of whole bytes
pub whole_size : (least most n : ℕ) → whole_bytes least most n ≡ true → (n ≡ 9 * (n / 9)) × (least ≤ n / 9) × (n / 9 ≤ most)
unfolding whole_bytes
whole_size least most n w =
    let p : ((eqb (n % 9) 0 && leb least (n / 9)) ≡ true) × (leb (n / 9) most ≡ true) = both (eqb (n % 9) 0 && leb least (n / 9)) (leb (n / 9) most) w in
    let q : (eqb (n % 9) 0 ≡ true) × (leb least (n / 9) ≡ true) = both (eqb (n % 9) 0) (leb least (n / 9)) p.0 in
    (omega (arith, eqb-true (n % 9) 0 q.0), leb-true least (n / 9) q.1, leb-true (n / 9) most p.1)

-- a row that passes the tests
pub read_good : (least most : ℕ) (h : List ℕ) → whole_bytes least most (length h) ≡ true → clean h ≡ true → faulty (length h / 9) h ≡ false
    → read_frame least most h ≡ Good (bytes_of (length h / 9) (data_of (length h / 9) h))
unfolding read_frame
read_good least most h w c f = simp (w, c, f)

-- a row that is read has passed them
pub record Passed (least most : ℕ) (h l : List ℕ) : Type 0 where
  pub whole : whole_bytes least most (length h) ≡ true
  pub unhurt : clean h ≡ true
  pub sound : faulty (length h / 9) h ≡ false
  pub bytes : bytes_of (length h / 9) (data_of (length h / 9) h) ≡ l

pub read_passed : (least most : ℕ) (h l : List ℕ) → read_frame least most h ≡ Good l → Passed least most h l
unfolding read_frame
read_passed least most h l e = go (whole_bytes least most (length h)) (clean h) (faulty (length h / 9) h) refl refl refl e
  where
    go : (w c f : Bool) → whole_bytes least most (length h) ≡ w → clean h ≡ c → faulty (length h / 9) h ≡ f
        → cond (not w) (Fault Length) (cond (not c) (Fault Collision) (cond f (Fault (Parity (first_wrong (length h / 9) h))) (Good (bytes_of (length h / 9) (data_of (length h / 9) h))))) ≡ Good l
        → Passed least most h l
    go true true false w c f e = record { whole = w; unhurt = c; sound = f; bytes = cc }
    go true true true w c f e = absurd (let z : ◌≡◌ {A = ℕ} 0 1 = cc in omega arith)
    go true false f w c g e = absurd (let z : ◌≡◌ {A = ℕ} 0 1 = cc in omega arith)
    go false c f w d g e = absurd (let z : ◌≡◌ {A = ℕ} 0 1 = cc in omega arith)

-- how many bytes are read
pub read_size : (least most : ℕ) (h l : List ℕ) → read_frame least most h ≡ Good l → (least ≤ length l) × (length l ≤ most)
read_size least most h l e =
    let p = read_passed least most h l e in
    let n : length l ≡ length h / 9 = sym (ap length p.bytes) ∙ length_bytes (length h / 9) (data_of (length h / 9) h) in
    let s = whole_size least most (length h) p.whole in
    (omega (arith, n, s.1), omega (arith, n, s.2))

-- ---- what is written is read back

pub bits_standard : (l : List ℕ) → Bits (standard l)
unfolding standard air_byte
bits_standard [] = tt
bits_standard (b ∷ l) =
    all_append (λ x. x < 2) (air_byte b) (standard l)
    (all_append (λ x. x < 2) (bits_of 8 b) (odd (bits_of 8 b) ∷ []) (bits_bits 8 b) (odd_bit (bits_of 8 b), tt)) (bits_standard l)

standard_sound : (l : List ℕ) → faulty (length l) (standard l) ≡ false
unfolding standard
standard_sound [] = faulty_none []
standard_sound (b ∷ l) =
    rw (faulty_step (length l) (air_byte b ++ standard l), take_air b (standard l), parity_air b (standard l), drop_air b (standard l), eq-eqb (odd (bits_of 8 b)) (odd (bits_of 8 b)) refl, and-false)
    (standard_sound l)

standard_bytes : (l : List ℕ) → Bytes l → bytes_of (length l) (data_of (length l) (standard l)) ≡ l
unfolding standard
standard_bytes [] b = unfold bytes_of in refl
standard_bytes (x ∷ l) b =
    rw (
      bytes_first (length l) (air_byte x ++ standard l) (rw (length-append, length_air_byte) (omega arith)),
      take_air x (standard l),
      drop_air x (standard l),
      unbits_bits 8 x b.0,
      standard_bytes l b.1,
    )

-- bytes that are written as a frame are read from it
pub read_standard : (least most : ℕ) (l : List ℕ) → Bytes l → least ≤ length l → length l ≤ most → read_frame least most (standard l) ≡ Good l
read_standard least most l b s t =
    let e : length (standard l) / 9 ≡ length l = omega (arith, length_standard l) in
    read_good least most (standard l) (whole_true least most (length l) (length (standard l)) (length_standard l) s t)
    (bits_clean (standard l) (bits_standard l)) (rw e (standard_sound l))
    ∙ rw e (ap Good (standard_bytes l b))

without_with : (l : List ℕ) → without_crc (with_crc l) ≡ Good l
unfolding without_crc crc_good
without_with l = rw (good_with l, take_with l)

-- .. and so are bytes with their CRC_A
pub read_crc_standard : (most : ℕ) (l : List ℕ) → Bytes l → 1 ≤ length l → length l + 2 ≤ most → read_crc 3 most (standard (with_crc l)) ≡ Good l
unfolding read_crc
read_crc_standard most l b s t =
    rw (read_standard 3 most (with_crc l) (with_bytes l b) (rw length_with (omega arith)) (rw length_with t)) (without_with l)

-- .. and the byte of a short frame
pub read_short_short : (b : ℕ) → b < 128 → read_short (short b) ≡ giving (b ∷ [])
unfolding read_short short
read_short_short b h = rw (length_bits 7 b, bits_clean (bits_of 7 b) (bits_bits 7 b), unbits_bits 7 b h)

-- ---- what is read is what was written

-- a byte of a row that passes the tests has right parity, and the other bytes pass them too
sound_parts : (n : ℕ) (h : List ℕ) → clean (take 8 h) ≡ true → faulty (suc n) h ≡ false → (get_or h 8 0 ≡ odd (take 8 h)) × (faulty n (drop 9 h) ≡ false)
sound_parts n h c f = go (eqb (get_or h 8 0) (odd (take 8 h))) refl (rw c at (sym (faulty_step n h) ∙ f))
  where
    go : (b : Bool) → eqb (get_or h 8 0) (odd (take 8 h)) ≡ b → (not b || faulty n (drop 9 h)) ≡ false
        → (get_or h 8 0 ≡ odd (take 8 h)) × (faulty n (drop 9 h) ≡ false)
    go true e f = (eqb-true (get_or h 8 0) (odd (take 8 h)) e, f)
    go false e f = absurd (true≢false f)

-- such a byte, written again
air_row : (h : List ℕ) → 9 ≤ length h → clean (take 8 h) ≡ true → get_or h 8 0 ≡ odd (take 8 h) → air_byte (unbits (take 8 h)) ++ drop 9 h ≡ h
unfolding air_byte
air_row h l c e =
    let b : bits_of 8 (unbits (take 8 h)) ≡ take 8 h = bits_whole 8 (take 8 h) (clean_bits (take 8 h) c) (length-take-le 8 h (omega arith)) in
    rw (b, ← e, append_assoc) (sym (split_at h 8 0 (omega arith)))

standard_row : (n : ℕ) (h : List ℕ) → length h ≡ 9 * n → clean h ≡ true → faulty n h ≡ false → standard (bytes_of n (data_of n h)) ≡ h
unfolding standard
standard_row zero h e c f = unfold bytes_of in sym (is_nil_law h (omega arith))
standard_row (suc n) h e c f =
    let q = sound_parts n h (clean_take 8 h c) f in
    rw (bytes_first n h (omega arith), standard_row n (drop 9 h) (rw length-drop (omega arith)) (clean_drop 9 h c) q.1)
    (air_row h (omega arith) (clean_take 8 h c) q.0)

pub read_exact : (least most : ℕ) (h l : List ℕ) → read_frame least most h ≡ Good l → h ≡ standard l
read_exact least most h l e =
    let p = read_passed least most h l e in
    sym (standard_row (length h / 9) h (whole_size least most (length h) p.whole).0 p.unhurt p.sound) ∙ ap standard p.bytes

without_exact : (m l : List ℕ) → without_crc m ≡ Good l → m ≡ with_crc l
unfolding without_crc
without_exact m l e = go (same m (with_crc (take (length m - 2) m))) refl e
  where
    go : (b : Bool) → same m (with_crc (take (length m - 2) m)) ≡ b → cond b (Good (take (length m - 2) m)) (Fault Crc) ≡ Good l → m ≡ with_crc l
    go true s e = let q : take (length m - 2) m ≡ l = cc in same_sound m (with_crc (take (length m - 2) m)) s ∙ ap with_crc q
    go false s e = absurd (let z : ◌≡◌ {A = ℕ} 0 1 = cc in omega arith)

pub read_crc_exact : (least most : ℕ) (h l : List ℕ) → read_crc least most h ≡ Good l → h ≡ standard (with_crc l)
unfolding read_crc
read_crc_exact least most h l e = go (read_frame least most h) refl e
  where
    go : (v : Verdict) → read_frame least most h ≡ v → crc_checked v ≡ Good l → h ≡ standard (with_crc l)
    go (Good m) r e = read_exact least most h m r ∙ ap standard (without_exact m l e)
    go (Fault f) r e = absurd (let z : ◌≡◌ {A = ℕ} 0 1 = cc in omega arith)

pub read_short_exact : (h : List ℕ) (b : ℕ) → read_short h ≡ giving (b ∷ []) → h ≡ short b
unfolding read_short short
read_short_exact h b e = go (eqb (length h) 7) refl (clean h) refl e
  where
    go : (s : Bool) → eqb (length h) 7 ≡ s → (c : Bool) → clean h ≡ c
        → decline_if (not s) 2 (decline_if (not c) 8 (giving (unbits h ∷ []))) ≡ giving (b ∷ []) → h ≡ bits_of 7 b
    go true s true c e =
        let q : unbits h ≡ b = ap (λ x. get_or x.values 0 0) e in
        rw (← q) (sym (bits_whole 7 h (clean_bits h c) (eqb-true (length h) 7 s)))
    go true s false c e = absurd (omega (arith, ap (λ x. x.number) e))
    go false s c d e = absurd (omega (arith, ap (λ x. x.number) e))

-- ---- bytes that are read are bytes

data_bits : (n : ℕ) (h : List ℕ) → Bits h → Bits (data_of n h)
unfolding data_of
data_bits zero h b = tt
data_bits (suc n) h b = all_append (λ x. x < 2) (take 8 h) (data_of n (drop 9 h)) (all_take_law (λ x. x < 2) 8 h b) (data_bits n (drop 9 h) (all_drop (λ x. x < 2) 9 h b))

bytes_small : (n : ℕ) (d : List ℕ) → Bits d → Bytes (bytes_of n d)
unfolding bytes_of
bytes_small zero d b = tt
bytes_small (suc n) d b = (unbits_lt 8 (take 8 d) (all_take_law (λ x. x < 2) 8 d b) (rw length-take (omega arith)), bytes_small n (drop 8 d) (all_drop (λ x. x < 2) 8 d b))

pub read_bytes : (least most : ℕ) (h l : List ℕ) → read_frame least most h ≡ Good l → Bytes l
read_bytes least most h l e =
    let p = read_passed least most h l e in
    rw (← p.bytes) (bytes_small (length h / 9) (data_of (length h / 9) h) (data_bits (length h / 9) h (clean_bits h p.unhurt)))
