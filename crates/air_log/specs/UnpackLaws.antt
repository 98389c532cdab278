-- Laws of bits read from bytes, and of the loops over them. Assumes nothing.
use Rattle.std.specs.Prelude.{◌≡◌, refl, ℕ, zero, suc, ◌+◌, ◌-◌, ◌*◌, ◌/◌, ◌%◌, ◌≤◌, ◌<◌, Bool, true, false, cond, List, [], ◌∷◌, ◌++◌, ltb, eqb, length, take, drop, get_or}
use Rattle.std.proofs.Common.{sym, ap, ◌∙◌, add-one, arith, length-append, length-drop, drop-cons, get_or-append-add, get_or-drop, ltb-true, ltb-false, eq-eqb, ne_eqb}
use Rattle.std.proofs.Math.ListN.{get_or-append, get_or-eq_default}
use Rattle.air_log.specs.Reading.{top_bits, unpacked, zeros, clash, apart, rows_size}
use Rattle.air_log.specs.Calls.{row_size, kind_number}
use Rattle.air_log.specs.declared.Kind.{Kind}
use Rattle.air_log.specs.declared.Kind.TheVariants.{Sent, Clean, Collided, Silence}

pub length_top : (n b : ℕ) → length (top_bits n b) ≡ n
unfolding top_bits
length_top zero b = refl
length_top (suc n) b = rw (length-append, length_top n (b / 2)) (omega arith)

pub length_unpacked : (l : List ℕ) → length (unpacked l) ≡ 8 * length l
unfolding unpacked
length_unpacked [] = refl
length_unpacked (b ∷ l) = rw (length-append, length_top 8 b) (omega (arith, length_unpacked l))

-- a log that holds a row's bytes holds its bits
pub bits_enough : (l : List ℕ) (at k : ℕ) → at + k ≤ length l → 8 * k ≤ length (unpacked (drop at l))
bits_enough l at k h = rw (length_unpacked (drop at l), length-drop) (omega arith)

-- ---- one bit

bit_in : (l : List ℕ) (i : ℕ) → i < 8 * length l → get_or (unpacked l) i 0 ≡ get_or (top_bits 8 (get_or l (i / 8) 0)) (i % 8) 0
unfolding unpacked
bit_in [] i h = absurd (omega arith)
bit_in (b ∷ l) i h = go (ltb i 8) refl (bit_in l (i - 8))
  where
    go : (t : Bool) → ltb i 8 ≡ t
        → (i - 8 < 8 * length l → get_or (unpacked l) (i - 8) 0 ≡ get_or (top_bits 8 (get_or l ((i - 8) / 8) 0)) ((i - 8) % 8) 0)
        → get_or (top_bits 8 b ++ unpacked l) i 0 ≡ get_or (top_bits 8 (get_or (b ∷ l) (i / 8) 0)) (i % 8) 0
    go true e rest =
        let k : i < 8 = ltb-true i 8 e in
        let e₁ : i / 8 ≡ 0 = omega arith in
        let e₂ : i % 8 ≡ i = omega arith in
        rw (e₁, e₂) (get_or-append (top_bits 8 b) (unpacked l) 0 i (omega (arith, length_top 8 b)))
    go false e rest =
        let k : 8 ≤ i = ltb-false i 8 e in
        let e₁ : i / 8 ≡ suc ((i - 8) / 8) = omega arith in
        let e₂ : i % 8 ≡ (i - 8) % 8 = omega arith in
        let e₃ : i ≡ length (top_bits 8 b) + (i - 8) = omega (arith, length_top 8 b) in
        rw (e₁, e₂) (ap (λ n. get_or (top_bits 8 b ++ unpacked l) n 0) e₃ ∙ get_or-append-add (top_bits 8 b) (unpacked l) (i - 8) 0 ∙ rest (omega arith))

-- a bit of the bits from a byte on, as the code reads it
pub bit_here : (l : List ℕ) (at i : ℕ) → at + i / 8 < length l
    → get_or (top_bits 8 (get_or l (at + i / 8) 0)) (i % 8) 0 ≡ get_or (unpacked (drop at l)) i 0
bit_here l at i h =
    rw (← get_or-drop at l (i / 8) 0) (sym (bit_in (drop at l) i (simp length-drop (omega arith))))

pub bit_past : (l : List ℕ) (at i : ℕ) → length l ≤ at + i / 8 → get_or (unpacked (drop at l)) i 0 ≡ 0
bit_past l at i h =
    get_or-eq_default (unpacked (drop at l)) 0 (rw (length_unpacked (drop at l), length-drop) (omega arith))

-- ---- the loops

zeros_turn : (s : List ℕ) (i k : ℕ) → i < k → i < length s
    → zeros (take (k - i) (drop i s)) ≡ cond (eqb (get_or s i 0) 0) (zeros (take (k - (i + 1)) (drop (i + 1) s))) false
unfolding zeros
zeros_turn s i k h l = let e : k - i ≡ suc (k - (i + 1)) = omega arith in rw (e, add-one, drop-cons s i 0)

-- the loop that looks for a 1: found, not there, none
pub zeros_found : (s : List ℕ) (i k : ℕ) → i < k → i < length s → (get_or s i 0 ≡ 0 → ⊥) → zeros (take (k - i) (drop i s)) ≡ false
zeros_found s i k h l n = zeros_turn s i k h l ∙ simp (ne_eqb (get_or s i 0) 0 n)

pub zeros_next : (s : List ℕ) (i k : ℕ) → i < k → i < length s → get_or s i 0 ≡ 0
    → zeros (take (k - (i + 1)) (drop (i + 1) s)) ≡ zeros (take (k - i) (drop i s))
zeros_next s i k h l e = sym (zeros_turn s i k h l ∙ simp (eq-eqb (get_or s i 0) 0 e))

pub zeros_done : (s : List ℕ) (i k : ℕ) → k ≤ i → zeros (take (k - i) (drop i s)) ≡ true
unfolding zeros
zeros_done s i k h = let e : k - i ≡ 0 = omega arith in rw e

-- all of the first n bits
pub row_all : (s : List ℕ) (n : ℕ) {b : Bool} → b ≡ zeros (take (n - 0) (drop 0 s)) → b ≡ zeros (take n s)
row_all s n e = let z : n - 0 ≡ n = omega arith in rw z at e

-- the loop that looks for a clash: a turn, none
pub apart_turn : (s t : List ℕ) (i k : ℕ) (b : Bool) → i < k → i < length s → i < length t → b ≡ clash (get_or s i 0) (get_or t i 0)
    → apart (take (k - i) (drop i s)) (take (k - i) (drop i t))
    ≡ cond b false (apart (take (k - (i + 1)) (drop (i + 1) s)) (take (k - (i + 1)) (drop (i + 1) t)))
unfolding apart
apart_turn s t i k b h l m p =
    let e : k - i ≡ suc (k - (i + 1)) = omega arith in
    rw (e, add-one, drop-cons s i 0 l, drop-cons t i 0 m, p)

pub apart_done : (s t : List ℕ) (i k : ℕ) → k ≤ i → apart (take (k - i) (drop i s)) (take (k - i) (drop i t)) ≡ true
unfolding apart
apart_done s t i k h = let e : k - i ≡ 0 = omega arith in rw e

-- ---- the room of a record's rows

pub size_one : (k n : ℕ) → row_size n ≤ rows_size k n
size_one k n = go (eqb k 2)
  where
    go : (t : Bool) → row_size n ≤ cond t (2 * row_size n) (row_size n)
    go true = omega arith
    go false = omega arith

pub size_two : (k n : ℕ) → k ≡ 2 → rows_size k n ≡ 2 * row_size n
size_two k n e = simp (eq-eqb k 2 e)

pub size_most : (k n : ℕ) → rows_size k n ≤ 2 * row_size n
size_most k n = go (eqb k 2)
  where
    go : (t : Bool) → cond t (2 * row_size n) (row_size n) ≤ 2 * row_size n
    go true = omega arith
    go false = omega arith

-- ---- the kind of a record

pub not_silence : (k : Kind) → (k ≡ Silence → ⊥) → eqb (kind_number k) 3 ≡ false
not_silence Sent h = refl
not_silence Clean h = refl
not_silence Collided h = refl
not_silence Silence h = absurd (h refl)
