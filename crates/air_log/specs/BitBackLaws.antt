-- Bits that are packed into bytes are unpacked again, with zeros behind. Assumes nothing.
use Rattle.std.specs.Prelude.{◌≡◌, refl, ℕ, zero, suc, ◌+◌, ◌-◌, ◌*◌, ◌/◌, ◌%◌, ◌^◌, ◌≤◌, ◌<◌, List, [], ◌∷◌, ◌++◌, length, take, drop, replicate}
use Rattle.std.proofs.Common.{sym, ap, ap₂, ◌∙◌, not-suc-le-zero, zero-add, arith, append_assoc, length-take, length-drop}
use Rattle.std.proofs.lemmas.List.{replicate-append-replicate}
use Rattle.rows.specs.Rows.{Bits, fill}
use Rattle.rows.specs.ListLaws.{is_nil_law, all_take_law, all_drop}
use Rattle.air_log.specs.Log.{from_top, packed}
use Rattle.air_log.specs.Reading.{top_bits, unpacked}
use Rattle.air_log.specs.PackLaws.{twice, top_lt}

-- ---- one byte

top_cons : (n x w : ℕ) → x < 2 → w < 2 ^ n → top_bits (suc n) (x * 2 ^ n + w) ≡ x ∷ top_bits n w
unfolding top_bits
top_cons zero x w h k = let e : (x * 2 ^ 0 + w) % 2 ≡ x = omega arith in rw e
top_cons (suc n) x w h k =
    let e₁ : (x * 2 ^ suc n + w) / 2 ≡ x * 2 ^ n + w / 2 = omega (arith, twice x n) in
    let e₂ : (x * 2 ^ suc n + w) % 2 ≡ w % 2 = omega (arith, twice x n) in
    rw (e₁, e₂) (ap (λ l. l ++ w % 2 ∷ []) (top_cons n x (w / 2) h (omega arith)))

zeros_snoc : (n : ℕ) → ◌≡◌ {A = List ℕ} (replicate n 0 ++ 0 ∷ []) (replicate (suc n) 0)
zeros_snoc zero = refl
zeros_snoc (suc n) = ap (λ l. 0 ∷ l) (zeros_snoc n)

top_zero : (n : ℕ) → top_bits n 0 ≡ replicate n 0
unfolding top_bits
top_zero zero = refl
top_zero (suc n) = ap (λ l. l ++ 0 ∷ []) (top_zero n) ∙ zeros_snoc n

fill_nil : (n : ℕ) → fill n [] ≡ replicate n 0
unfolding fill
fill_nil n = let e : n - 0 ≡ n = omega arith in rw e

fill_cons : (n x : ℕ) (l : List ℕ) → fill (suc n) (x ∷ l) ≡ x ∷ fill n l
unfolding fill
fill_cons n x l = let e : suc n - suc (length l) ≡ n - length l = omega arith in rw e

pub top_back : (n : ℕ) (l : List ℕ) → Bits l → length l ≤ n → top_bits n (from_top n l) ≡ fill n l
unfolding from_top
top_back zero [] b h = top_zero 0 ∙ sym (fill_nil 0)
top_back (suc n) [] b h = top_zero (suc n) ∙ sym (fill_nil (suc n))
top_back zero (x ∷ l) b h = absurd (not-suc-le-zero h)
top_back (suc n) (x ∷ l) b h =
    top_cons n x (from_top n l) b.0 (top_lt n l b.1)
    ∙ ap (λ r. x ∷ r) (top_back n l b.1 (omega arith))
    ∙ sym (fill_cons n x l)

-- ---- a row

fill_split : (k m : ℕ) (r : List ℕ) → fill k (take k r) ++ fill m (drop k r) ≡ fill (k + m) r
fill_split zero m r = ap₂ ◌++◌ (fill_nil 0) refl ∙ ap (λ n. fill n r) (sym (zero-add m))
fill_split (suc k) m [] =
    ap₂ ◌++◌ (fill_nil (suc k)) (fill_nil m) ∙ replicate-append-replicate (suc k) m 0 ∙ sym (fill_nil (suc k + m))
fill_split (suc k) m (x ∷ r) =
    let e : suc k + m ≡ suc (k + m) = omega arith in
    ap (λ l. l ++ fill m (drop k r)) (fill_cons k x (take k r))
    ∙ ap (λ l. x ∷ l) (fill_split k m r)
    ∙ sym (ap (λ n. fill n (x ∷ r)) e ∙ fill_cons (k + m) x r)

pub unpack_back : (m : ℕ) (r : List ℕ) → Bits r → length r ≤ 8 * m → unpacked (packed m r) ≡ fill (8 * m) r
unfolding packed unpacked
unpack_back zero r b h = rw (is_nil_law r (omega arith)) (sym (fill_nil 0))
unpack_back (suc m) r b h =
    let e : 8 * suc m ≡ 8 + 8 * m = omega arith in
    ap₂ ◌++◌
    (top_back 8 (take 8 r) (all_take_law (λ x. x < 2) 8 r b) (simp length-take (omega arith)))
    (unpack_back m (drop 8 r) (all_drop (λ x. x < 2) 8 r b) (simp length-drop (omega arith)))
    ∙ fill_split 8 (8 * m) r
    ∙ ap (λ n. fill n r) (sym e)

pub unpacked_append : (k l : List ℕ) → unpacked (k ++ l) ≡ unpacked k ++ unpacked l
unfolding unpacked
unpacked_append [] l = refl
unpacked_append (b ∷ k) l = rw (unpacked_append k l, append_assoc)
