-- What is written is read back: bytes, rows and numbers. Assumes nothing.
use Rattle.std.specs.Prelude.{◌≡◌, refl, Some, Bool, true, false, cond, List, [], ◌∷◌, ◌++◌, ℕ, zero, suc, ◌+◌, ◌*◌, ◌/◌, ◌%◌, ◌^◌, ◌≤◌, ◌<◌, length, ltb, eqb}
use Rattle.std.proofs.Common.{ap, ap₂, ◌∙◌, pow-suc, arith, length-append, lt-ltb, le-ltb, ltb-true, ltb-false, le-leb, eq-eqb}
use Rattle.rows.specs.Rows.{All, Bytes, same}
use Rattle.rows.specs.ListLaws.{same_length}
use Rattle.bench_text.specs.Text.{hex_char, hex_digits, hex_text, bit_char, bits_text, row_text, last_digit, digits, decimal_text}
use Rattle.bench_values.specs.declared.Alphabet.TheVariants.{Hex, Bits, Decimal}
use Rattle.bench_values.specs.Values.{hex_value, bit_value, decimal_value, spelt, These, hex_bytes, hex_word, row_bits, row_word, joined, number_word}

-- ---- bytes

hex_letter : (d : ℕ) → d < 16 → hex_value (hex_char d) ≡ d
unfolding hex_value hex_char
hex_letter d h = go (ltb d 10) refl
  where
    go : (b : Bool) → ltb d 10 ≡ b → hex_value (cond b (48 + d) (55 + d)) ≡ d
    go true t =
        let l : d < 10 = ltb-true d 10 t in
        simp (le-ltb (48 + d) 48 (omega arith), lt-ltb (48 + d) 58 (omega arith)) (omega arith)
    go false t =
        let l : 10 ≤ d = ltb-false d 10 t in
        simp (
          le-ltb (55 + d) 48 (omega arith),
          le-ltb (55 + d) 58 (omega arith),
          le-ltb (55 + d) 65 (omega arith),
          lt-ltb (55 + d) 71 (omega arith),
        )
        (omega arith)

length_hex_digits : (l : List ℕ) → length (hex_digits l) ≡ 2 * length l
unfolding hex_digits
length_hex_digits [] = refl
length_hex_digits (b ∷ l) = omega (arith, length_hex_digits l)

spelt_hex_digits : (l : List ℕ) → Bytes l → spelt Hex (hex_digits l) ≡ true
unfolding hex_digits spelt
spelt_hex_digits [] h = refl
spelt_hex_digits (b ∷ l) h =
    let k : b < 256 = h.0 in
    simp (
      hex_letter (b / 16) (omega arith),
      hex_letter (b % 16) (omega arith),
      lt-ltb (b / 16) 16 (omega arith),
      lt-ltb (b % 16) 16 (omega arith),
    )
    (spelt_hex_digits l h.1)

bytes_hex_digits : (l : List ℕ) → Bytes l → hex_bytes (hex_digits l) ≡ l
unfolding hex_digits hex_bytes
bytes_hex_digits [] h = refl
bytes_hex_digits (b ∷ l) h =
    let k : b < 256 = h.0 in
    simp (hex_letter (b / 16) (omega arith), hex_letter (b % 16) (omega arith), bytes_hex_digits l h.1) (ap (λ (x : ℕ). x ∷ l) (omega arith))

pub hex_back : (l : List ℕ) → Bytes l → hex_word (hex_text l) ≡ These l
unfolding hex_word hex_text same
hex_back [] h = refl
hex_back (b ∷ l) h =
    let w : List ℕ = hex_digits (b ∷ l) in
    let n : length w ≡ 2 * length (b ∷ l) = length_hex_digits (b ∷ l) in
    simp (
      same_length w (45 ∷ []) (λ e. omega arith),
      le-leb 2 (length w) (omega arith),
      eq-eqb (length w % 2) 0 (omega arith),
      spelt_hex_digits (b ∷ l) h,
      bytes_hex_digits (b ∷ l) h,
    )

-- ---- rows

bit_letter : (x : ℕ) → x < 3 → (bit_value (bit_char x) ≡ x) × (eqb (bit_char x) 45 ≡ false)
unfolding bit_value bit_char
bit_letter zero h = (refl, refl)
bit_letter (suc zero) h = (refl, refl)
bit_letter (suc (suc zero)) h = (refl, refl)
bit_letter (suc (suc (suc x))) h = absurd (omega arith)

spelt_bits : (r : List ℕ) → All (λ x. x < 3) r → spelt Bits (bits_text r) ≡ true
unfolding bits_text spelt
spelt_bits [] h = refl
spelt_bits (x ∷ r) h = simp ((bit_letter x h.0).0, lt-ltb x 16 (omega (arith, h.0))) (spelt_bits r h.1)

bits_back : (r : List ℕ) → All (λ x. x < 3) r → row_bits (bits_text r) ≡ r
unfolding bits_text row_bits
bits_back [] h = refl
bits_back (x ∷ r) h = ap₂ ◌∷◌ (bit_letter x h.0).0 (bits_back r h.1)

pub row_back : (r : List ℕ) → All (λ x. x < 3) r → row_word (row_text r) ≡ These r
unfolding row_word row_text same bits_text
row_back [] h = refl
row_back (x ∷ r) h =
    simp ((bit_letter x h.0).1, spelt_bits (x ∷ r) h, bits_back (x ∷ r) h, le-leb 1 (length (bits_text (x ∷ r))) (omega arith))

-- ---- numbers

digit_letter : (n : ℕ) → decimal_value (48 + n % 10) ≡ n % 10
unfolding decimal_value
digit_letter n = simp (le-ltb (48 + n % 10) 48 (omega arith), lt-ltb (48 + n % 10) 58 (omega arith)) (omega arith)

joined_snoc : (v : ℕ) (p : List ℕ) (n : ℕ) → joined v (p ++ last_digit n) ≡ 10 * joined v p + n % 10
unfolding joined
joined_snoc v [] n = rw (digit_letter n) (omega arith)
joined_snoc v (c ∷ p) n = joined_snoc (10 * v + decimal_value c % 10) p n

joined_one : (n : ℕ) → n < 10 → joined 0 (last_digit n) ≡ n
unfolding joined
joined_one n h = rw (digit_letter n) (omega arith)

joined_digits : (f n : ℕ) → n ≤ f → joined 0 (digits f n) ≡ n
unfolding digits
joined_digits zero n h = joined_one n (omega arith)
joined_digits (suc f) n h = go (ltb n 10) refl (λ (k : n / 10 ≤ f). joined_digits f (n / 10) k)
  where
    go : (b : Bool) → ltb n 10 ≡ b → (n / 10 ≤ f → joined 0 (digits f (n / 10)) ≡ n / 10)
        → joined 0 (cond b (last_digit n) (digits f (n / 10) ++ last_digit n)) ≡ n
    go true t ih = joined_one n (ltb-true n 10 t)
    go false t ih =
        let l : 10 ≤ n = ltb-false n 10 t in
        joined_snoc 0 (digits f (n / 10)) n ∙ omega (arith, ih (omega arith))

spelt_snoc : (p : List ℕ) (n : ℕ) → spelt Decimal p ≡ true → spelt Decimal (p ++ last_digit n) ≡ true
unfolding spelt
spelt_snoc [] n h = simp (digit_letter n, lt-ltb (n % 10) 16 (omega arith))
spelt_snoc (c ∷ p) n h = go (ltb (decimal_value c) 16) h (λ (k : spelt Decimal p ≡ true). spelt_snoc p n k)
  where
    go : (b : Bool) → cond b (spelt Decimal p) false ≡ true → (spelt Decimal p ≡ true → spelt Decimal (p ++ last_digit n) ≡ true)
        → cond b (spelt Decimal (p ++ last_digit n)) false ≡ true
    go true k ih = ih k
    go false k ih = k

spelt_digits : (f n : ℕ) → spelt Decimal (digits f n) ≡ true
unfolding digits spelt
spelt_digits zero n = spelt_snoc [] n refl
spelt_digits (suc f) n = go (ltb n 10) (spelt_digits f (n / 10))
  where
    go : (b : Bool) → spelt Decimal (digits f (n / 10)) ≡ true → spelt Decimal (cond b (last_digit n) (digits f (n / 10) ++ last_digit n)) ≡ true
    go true ih = spelt_snoc [] n refl
    go false ih = spelt_snoc (digits f (n / 10)) n ih

few_digits : (k f n : ℕ) → n < 10 ^ suc k → (1 ≤ length (digits f n)) × (length (digits f n) ≤ suc k)
unfolding digits
few_digits k zero n h = (omega arith, omega arith)
few_digits k (suc f) n h = go (ltb n 10) refl k h (λ (j : ℕ) (l : n / 10 < 10 ^ suc j). few_digits j f (n / 10) l)
  where
    go : (b : Bool) → ltb n 10 ≡ b → (k : ℕ) → n < 10 ^ suc k
        → ((j : ℕ) → n / 10 < 10 ^ suc j → (1 ≤ length (digits f (n / 10))) × (length (digits f (n / 10)) ≤ suc j))
        → (1 ≤ length (cond b (last_digit n) (digits f (n / 10) ++ last_digit n)))
        × (length (cond b (last_digit n) (digits f (n / 10) ++ last_digit n)) ≤ suc k)
    go true t k l ih = (omega arith, omega arith)
    go false t zero l ih = absurd (omega (arith, ltb-false n 10 t))
    go false t (suc j) l ih =
        let m : n < 10 ^ suc j * 10 = rw pow-suc at l in
        let r : (1 ≤ length (digits f (n / 10))) × (length (digits f (n / 10)) ≤ suc j) = ih j (omega arith) in
        let e : length (digits f (n / 10) ++ last_digit n) ≡ length (digits f (n / 10)) + 1 = simp length-append in
        (omega arith, omega arith)

pub number_back : (k n : ℕ) → n < 10 ^ suc k → number_word (suc k) (decimal_text n) ≡ Some n
unfolding number_word decimal_text
number_back k n h =
    let l : (1 ≤ length (digits n n)) × (length (digits n n) ≤ suc k) = few_digits k n n h in
    simp (
      le-leb 1 (length (digits n n)) l.0,
      le-leb (length (digits n n)) (suc k) l.1,
      spelt_digits n n,
      joined_digits n n (omega arith),
    )
