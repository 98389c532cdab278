-- Laws of text. Assumes nothing.
use Rattle.std.specs.Prelude.{◌≡◌, refl, Bool, true, false, cond, List, [], ◌∷◌, ◌++◌, ℕ, zero, suc, ◌+◌, ◌-◌, ◌*◌, ◌/◌, ◌%◌, ◌^◌, ◌≤◌, ◌<◌, min, length, take, set, get_or, ltb, leb, eqb, IsAscii}
use Rattle.std.proofs.Common.{sym, ap, ◌∙◌, append_assoc, append-nil, add-one, add_assoc, arith, length-append, length-set, length-take, take_all, take-suc, length-take-le, lt-ltb, le-ltb, ltb-false, leb-true, leb-false}
use Rattle.std.proofs.Math.Seq.{take-nil, take-append-add}
use Rattle.std.proofs.lemmas.List.{take-append-le, take_more_set}
use Rattle.std.proofs.lemmas.Fmt.{decimal_by_steps}
use Rattle.std.specs.Fmt.{decimal}
use Rattle.rows.specs.Rows.{overlay}
use Rattle.rows.proofs.RowLaws.{length_overlay, overlay_nil, overlay_next}
use Rattle.bench_text.specs.Text.{fit, Wrote, hex_char, hex_byte, hex_digits, hex_text, bit_char, bits_text, row_text, last_digit, digits, decimal_text}

-- ---- writing

pub length_fit : (room at : ℕ) (s : List ℕ) → at ≤ room → at + length (fit room at s) ≤ room
unfolding fit
length_fit room at s h = simp length-take (omega arith)

pub fit_past : (room at : ℕ) (s : List ℕ) → room ≤ at → fit room at s ≡ []
unfolding fit
fit_past room at s h = let e : room - at ≡ 0 = omega arith in rw e

-- the lent text keeps its length
pub wrote_length : (d : List ℕ) (at : ℕ) (s : List ℕ) (r : ℕ) (e : List ℕ) → Wrote d at s r e → length e ≡ length d
wrote_length d at s r e w = go (leb at (length d)) refl
  where
    go : (b : Bool) → leb at (length d) ≡ b → length e ≡ length d
    go true t = rw w.text (length_overlay d at (fit (length d) at s) (length_fit (length d) at s (leb-true at (length d) t)))
    go false t =
        let l : length d < at = leb-false at (length d) t in
        rw (w.text, fit_past (length d) at s (omega arith), overlay_nil)

pub wrote_nil : (d : List ℕ) (at : ℕ) → Wrote d at [] at d
unfolding fit
wrote_nil d at = record { place = rw (take-nil) (omega arith); text = rw take-nil (sym (overlay_nil d at)) }

-- what fits of two texts is what fits of the first and then what fits of the second
pub fit_append : (room at : ℕ) (s t : List ℕ) → fit room at s ++ fit room (at + length (fit room at s)) t ≡ fit room at (s ++ t)
unfolding fit
fit_append room at s t = go (leb (length s) (room - at)) refl
  where
    go : (b : Bool) → leb (length s) (room - at) ≡ b
        → take (room - at) s ++ take (room - (at + length (take (room - at) s))) t ≡ take (room - at) (s ++ t)
    go true h =
        let l : length s ≤ room - at = leb-true (length s) (room - at) h in
        let e : room - at ≡ length s + (room - (at + length s)) = omega arith in
        rw (take_all (room - at) s l) (sym (ap (λ (k : ℕ). take k (s ++ t)) e ∙ take-append-add s t (room - (at + length s))))
    go false h =
        let l : room - at < length s = leb-false (length s) (room - at) h in
        let e : length (take (room - at) s) ≡ room - at = length-take-le (room - at) s (omega arith) in
        let z : room - (at + (room - at)) ≡ 0 = omega arith in
        rw (e, z, append-nil) (sym (take-append-le (room - at) s t (omega arith)))

-- a text and then another are one text
pub wrote_next : (d : List ℕ) (at : ℕ) (s : List ℕ) (p : ℕ) (e : List ℕ) (t : List ℕ) (r : ℕ) (g : List ℕ)
    → Wrote d at s p e → Wrote e p t r g → Wrote d at (s ++ t) r g
wrote_next d at s p e t r g v w = go (leb at (length d)) refl
  where
    lengths : length e ≡ length d
    lengths = wrote_length d at s p e v

    here : List ℕ
    here = fit (length d) at s

    there : List ℕ
    there = fit (length d) (at + length here) t

    places : r ≡ at + length (fit (length d) at (s ++ t))
    places = rw (w.place, lengths, v.place, ← fit_append (length d) at s t, length-append, add_assoc)

    go : (b : Bool) → leb at (length d) ≡ b → Wrote d at (s ++ t) r g
    go true h =
        let l : at ≤ length d = leb-true at (length d) h in
        record {
          place = places;
          text =
              rw (w.text, lengths, v.place, v.text, ← fit_append (length d) at s t)
              (overlay_next d at here there (length_fit (length d) (at + length here) t (length_fit (length d) at s l)));
        }
    go false h =
        let l : length d < at = leb-false at (length d) h in
        record {
          place = places;
          text =
              rw (
                w.text,
                lengths,
                v.place,
                v.text,
                fit_past (length d) (at + length (fit (length d) at s)) t (omega arith),
                fit_past (length d) at s (omega arith),
                fit_past (length d) at (s ++ t) (omega arith),
                overlay_nil,
                overlay_nil,
              );
        }

-- the same, where the two texts make a third
pub wrote_more : (d : List ℕ) (at : ℕ) (s : List ℕ) (p : ℕ) (e : List ℕ) (t : List ℕ) (r : ℕ) (g : List ℕ) (u : List ℕ)
    → Wrote d at s p e → Wrote e p t r g → s ++ t ≡ u → Wrote d at u r g
wrote_more d at s p e t r g u v w h = rw h at (wrote_next d at s p e t r g v w)

-- nothing is written past the end
pub wrote_past : (d : List ℕ) (at : ℕ) (s : List ℕ) → length d ≤ at → Wrote d at s at d
wrote_past d at s h =
    let f : fit (length d) at s ≡ [] = fit_past (length d) at s h in
    record { place = rw f (omega arith); text = rw f (sym (overlay_nil d at)) }

fit_least : (room at : ℕ) (s : List ℕ) (n : ℕ) → n ≡ min (room - at) (length s) → fit room at s ≡ take n s
unfolding fit
fit_least room at s n m = go (leb (length s) (room - at)) refl
  where
    go : (b : Bool) → leb (length s) (room - at) ≡ b → take (room - at) s ≡ take n s
    go true t =
        let l : length s ≤ room - at = leb-true (length s) (room - at) t in
        take_all (room - at) s l ∙ sym (take_all n s (omega arith))
    go false t =
        let l : room - at < length s = leb-false (length s) (room - at) t in
        let k : n ≡ room - at = omega arith in
        rw k

-- as many elements as there are, and as there is room for
pub wrote_least : (d : List ℕ) (at : ℕ) (s : List ℕ) (n : ℕ) (e : List ℕ) → at ≤ length d → n ≡ min (length d - at) (length s)
    → e ≡ overlay d at (take n s) → Wrote d at s (at + n) e
wrote_least d at s n e h m w =
    let f : fit (length d) at s ≡ take n s = fit_least (length d) at s n m in
    let l : length (take n s) ≡ n = length-take-le n s (omega arith) in
    record { place = rw (f, l); text = rw f w }

-- ---- the loops

pub hex_next : (l : List ℕ) (i : ℕ) → i < length l → hex_digits (take i l) ++ hex_byte (get_or l i 0) ≡ hex_digits (take (i + 1) l)
unfolding hex_digits
hex_next l i h = rw (add-one, take-suc l i 0) (go (take i l))
  where
    go : (p : List ℕ) → hex_digits p ++ hex_byte (get_or l i 0) ≡ hex_digits (p ++ (get_or l i 0 ∷ []))
    go [] = refl
    go (b ∷ p) = rw (append_assoc, go p)

pub bits_next : (l : List ℕ) (i : ℕ) → i < length l → bits_text (take i l) ++ (bit_char (get_or l i 0) ∷ []) ≡ bits_text (take (i + 1) l)
unfolding bits_text
bits_next l i h = rw (add-one, take-suc l i 0) (go (take i l))
  where
    go : (p : List ℕ) → bits_text p ++ (bit_char (get_or l i 0) ∷ []) ≡ bits_text (p ++ (get_or l i 0 ∷ []))
    go [] = refl
    go (b ∷ p) = rw (go p)

pub hex_some : (l : List ℕ) → (length l ≡ 0 → ⊥) → hex_text l ≡ hex_digits l
unfolding hex_text
hex_some [] n = absurd (n refl)
hex_some (b ∷ l) n = refl

pub hex_none : (l : List ℕ) → length l ≡ 0 → hex_text l ≡ 45 ∷ []
unfolding hex_text
hex_none [] e = refl
hex_none (b ∷ l) e = absurd (omega arith)

pub row_some : (r : List ℕ) → (length r ≡ 0 → ⊥) → row_text r ≡ bits_text r
unfolding row_text
row_some [] n = absurd (n refl)
row_some (x ∷ r) n = refl

pub row_none : (r : List ℕ) → length r ≡ 0 → row_text r ≡ 45 ∷ []
unfolding row_text
row_none [] e = refl
row_none (x ∷ r) e = absurd (omega arith)

-- ---- what is printed

-- the digits of one byte more, and one bit more, set into a text that is long enough
pub hex_set : (t l : List ℕ) (i high low : ℕ) → take (2 * i) t ≡ hex_digits (take i l)
    → i < length l → 2 * i + 1 < length t
    → high ≡ hex_char (get_or l i 0 / 16) → low ≡ hex_char (get_or l i 0 % 16)
    → take (2 * (i + 1)) (set (set t (2 * i) high) (2 * i + 1) low) ≡ hex_digits (take (i + 1) l)
hex_set t l i high low e h k p q =
    let n : 2 * (i + 1) ≡ 2 * i + 1 + 1 = omega arith in
    let one = take_more_set t (2 * i) high (omega arith) in
    let two = take_more_set (set t (2 * i) high) (2 * i + 1) low (omega (arith, length-set t (2 * i) high)) in
    rw (n, two, one, append_assoc, e, p, q) (hex_next l i h)

pub bits_set : (t r : List ℕ) (i b : ℕ) → take i t ≡ bits_text (take i r) → i < length r → i < length t
    → b ≡ bit_char (get_or r i 0) → take (i + 1) (set t i b) ≡ bits_text (take (i + 1) r)
bits_set t r i b e h k p = rw (take_more_set t i b k, e, p) (bits_next r i h)

hex_append : (k l : List ℕ) → hex_digits (k ++ l) ≡ hex_digits k ++ hex_digits l
unfolding hex_digits
hex_append [] l = refl
hex_append (b ∷ k) l = rw (hex_append k l) refl

bits_append : (r s : List ℕ) → bits_text (r ++ s) ≡ bits_text r ++ bits_text s
unfolding bits_text
bits_append [] s = refl
bits_append (x ∷ r) s = rw (bits_append r s) refl

-- a piece and what follows it
pub hex_piece : (all piece rest : List ℕ) → all ≡ piece ++ rest
    → hex_digits piece ++ hex_digits rest ≡ hex_digits all
hex_piece all piece rest e = rw e (sym (hex_append piece rest))

pub bits_piece : (all piece rest : List ℕ) → all ≡ piece ++ rest
    → bits_text piece ++ bits_text rest ≡ bits_text all
bits_piece all piece rest e = rw e (sym (bits_append piece rest))

hex_char_ascii : (d : ℕ) → d < 16 → hex_char d < 128
unfolding hex_char
hex_char_ascii d h = go (ltb d 10)
  where
    go : (b : Bool) → cond b (48 + d) (55 + d) < 128
    go true = omega arith
    go false = omega arith

bit_char_ascii : (x : ℕ) → bit_char x < 128
unfolding bit_char
bit_char_ascii x = go (eqb x 0) (eqb x 1)
  where
    go : (b c : Bool) → cond b 48 (cond c 49 120) < 128
    go true c = omega arith
    go false true = omega arith
    go false false = omega arith

pub hex_ascii : (l : List ℕ) → ((i : ℕ) → get_or l i 0 < 256) → IsAscii (hex_digits l)
unfolding hex_digits
hex_ascii [] h i = omega arith
hex_ascii (b ∷ l) h zero = hex_char_ascii (b / 16) (omega (arith, h 0))
hex_ascii (b ∷ l) h (suc zero) = hex_char_ascii (b % 16) (omega arith)
hex_ascii (b ∷ l) h (suc (suc i)) = hex_ascii l (λ j. h (suc j)) i

pub bits_ascii : (r : List ℕ) → IsAscii (bits_text r)
unfolding bits_text
bits_ascii [] i = omega arith
bits_ascii (x ∷ r) zero = bit_char_ascii x
bits_ascii (x ∷ r) (suc i) = bits_ascii r i

-- ---- numbers

-- a number's digits do not depend on how many may come
digits_enough : (f g n : ℕ) → n ≤ f → n ≤ g → digits f n ≡ digits g n
unfolding digits
digits_enough zero zero n h k = refl
digits_enough zero (suc g) n h k = rw (lt-ltb n 10 (omega arith))
digits_enough (suc f) zero n h k = rw (lt-ltb n 10 (omega arith))
digits_enough (suc f) (suc g) n h k = go (ltb n 10) refl (λ (m : ℕ) (a : m ≤ f) (b : m ≤ g). digits_enough f g m a b)
  where
    go : (b : Bool) → ltb n 10 ≡ b → ((m : ℕ) → m ≤ f → m ≤ g → digits f m ≡ digits g m)
        → cond b (last_digit n) (digits f (n / 10) ++ last_digit n) ≡ cond b (last_digit n) (digits g (n / 10) ++ last_digit n)
    go true t ih = refl
    go false t ih =
        let l : 10 ≤ n = ltb-false n 10 t in
        rw (ih (n / 10) (omega arith) (omega arith))

digits_small : (f n : ℕ) → n < 10 → digits f n ≡ last_digit n
unfolding digits
digits_small zero n h = refl
digits_small (suc f) n h = rw (lt-ltb n 10 h)

pub decimal_small : (n : ℕ) → n < 10 → decimal_text n ≡ last_digit n
unfolding decimal_text
decimal_small n h = digits_small n n h

pub decimal_more : (n : ℕ) → 10 ≤ n → decimal_text n ≡ decimal_text (n / 10) ++ last_digit n
unfolding decimal_text digits
decimal_more n h = step (n - 1) (omega arith)
  where
    step : (f : ℕ) → n ≡ suc f → digits n n ≡ digits (n / 10) (n / 10) ++ last_digit n
    step f e =
        ap (λ (k : ℕ). digits k n) e
        ∙ rw (le-ltb n 10 h) (ap (λ (l : List ℕ). l ++ last_digit n) (digits_enough f (n / 10) (n / 10) (omega arith) (omega arith)))

-- `decimal n` is what `{}` prints of an unsigned number below 2 ^ 64: it is the number's text here
pub decimal_shown : (n : ℕ) → n < 2 ^ 64 → decimal n ≡ decimal_text n
decimal_shown = decimal_by_steps (λ n s. s ≡ decimal_text n) one more
  where
    one : (n : ℕ) → n < 10 → (48 + n) ∷ [] ≡ decimal_text n
    one n h = let e : n % 10 ≡ n = omega arith in rw (decimal_small n h, e) refl

    more : (n : ℕ) (s : List ℕ) → 10 ≤ n → s ≡ decimal_text (n / 10) → s ++ ((48 + n % 10) ∷ []) ≡ decimal_text n
    more n s h e = rw (decimal_more n h, e) refl
