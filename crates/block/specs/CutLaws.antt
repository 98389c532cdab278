-- Laws of sizes and of cutting a message. Assumes nothing.
use Rattle.std.specs.Prelude.{◌≡◌, refl, Bool, true, false, List, [], ◌∷◌, ◌++◌, ℕ, zero, suc, ◌+◌, ◌-◌, ◌*◌, ◌/◌, ◌≤◌, ◌<◌, max, min, leb, ltb, length, take, drop}
use Rattle.std.proofs.Common.{sym, ap, ◌∙◌, mul-suc, lt_of_not-le, arith, length-append, length-take, length-drop, take-add, take_all, le-ltb, le-leb, leb-true, leb-false}
use Rattle.std.proofs.lemmas.List.{take_min, drop_min}
use Rattle.std.proofs.lemmas.Bool.{lt-leb}
use Rattle.rows.specs.ListLaws.{is_nil_law}
use Rattle.selection.specs.Selection.{size}
use Rattle.limits.specs.Limits.{message_max}
use Rattle.block.specs.Cut.{payload_max, follows, part, part_bytes, fewest, fits}

-- two tests of numbers that hold together are equal
pub leb_iff : (a b c d : ℕ) → (a ≤ b → c ≤ d) → (c ≤ d → a ≤ b) → leb a b ≡ leb c d
leb_iff a b c d f g = go (leb c d) refl
  where
    go : (t : Bool) → leb c d ≡ t → leb a b ≡ t
    go true e = le-leb a b (g (leb-true c d e))
    go false e = let h : d < c = leb-false c d e in lt-leb a b (lt_of_not-le (λ k. let x : c ≤ d = f k in omega arith))

-- what holds of the nine sizes holds of every index's
pub each_size : (F : ℕ → Type 0) → F 16 → F 24 → F 32 → F 40 → F 48 → F 64 → F 96 → F 128 → F 256 → (i : ℕ) → F (size i)
unfolding size
each_size F a b c d e f g h k zero = a
each_size F a b c d e f g h k (suc zero) = b
each_size F a b c d e f g h k (suc (suc zero)) = c
each_size F a b c d e f g h k (suc (suc (suc zero))) = d
each_size F a b c d e f g h k (suc (suc (suc (suc zero)))) = e
each_size F a b c d e f g h k (suc (suc (suc (suc (suc zero))))) = f
each_size F a b c d e f g h k (suc (suc (suc (suc (suc (suc zero)))))) = g
each_size F a b c d e f g h k (suc (suc (suc (suc (suc (suc (suc zero))))))) = h
each_size F a b c d e f g h k (suc (suc (suc (suc (suc (suc (suc (suc i)))))))) = k

pub size_least : (i : ℕ) → 16 ≤ size i
size_least = each_size (λ s. 16 ≤ s) (omega arith) (omega arith) (omega arith) (omega arith) (omega arith) (omega arith) (omega arith) (omega arith) (omega arith)

pub payload_size : (i : ℕ) → payload_max i + 3 ≡ size i
unfolding payload_max
payload_size i = omega (arith, size_least i)

pub payload_most : (i : ℕ) → payload_max i ≤ 253
unfolding payload_max
payload_most = each_size (λ s. s - 3 ≤ 253) (omega arith) (omega arith) (omega arith) (omega arith) (omega arith) (omega arith) (omega arith) (omega arith) (omega arith)

-- what lies past a table's end is not read
-- a message that one block holds takes one
pub fewest_last : (i l : ℕ) → l ≤ payload_max i → fewest i l ≡ 1
unfolding fewest payload_max
fewest_last i l h = each_size (λ s. (l : ℕ) → l ≤ s - 3 → max 1 ((l + (s - 3 - 1)) / (s - 3)) ≡ 1)
    (λ l h. omega arith) (λ l h. omega arith) (λ l h. omega arith) (λ l h. omega arith) (λ l h. omega arith) (λ l h. omega arith) (λ l h. omega arith) (λ l h. omega arith) (λ l h. omega arith) i l h

-- a longer one takes one more than what is left after a full one
pub fewest_next : (i l : ℕ) → payload_max i < l → fewest i l ≡ suc (fewest i (l - payload_max i))
unfolding fewest payload_max
fewest_next i l h = each_size (λ s. (l : ℕ) → s - 3 < l → max 1 ((l + (s - 3 - 1)) / (s - 3)) ≡ suc (max 1 ((l - (s - 3) + (s - 3 - 1)) / (s - 3))))
    (λ l h. omega arith) (λ l h. omega arith) (λ l h. omega arith) (λ l h. omega arith) (λ l h. omega arith) (λ l h. omega arith) (λ l h. omega arith) (λ l h. omega arith) (λ l h. omega arith) i l h

-- no fewer blocks hold so many bytes
pub fewest_least : (i l k : ℕ) → 1 ≤ k → l ≤ payload_max i * k → fewest i l ≤ k
unfolding fewest payload_max
fewest_least i l k h g = each_size (λ s. (l k : ℕ) → 1 ≤ k → l ≤ (s - 3) * k → max 1 ((l + (s - 3 - 1)) / (s - 3)) ≤ k)
    (λ l k h g. omega arith) (λ l k h g. omega arith) (λ l k h g. omega arith) (λ l k h g. omega arith) (λ l k h g. omega arith) (λ l k h g. omega arith) (λ l k h g. omega arith) (λ l k h g. omega arith) (λ l k h g. omega arith) i l k h g

pub fewest_some : (i l : ℕ) → 1 ≤ fewest i l
unfolding fewest
fewest_some i l = omega arith

-- 4,096 bytes take at most 316
pub fewest_most : (i l : ℕ) → l ≤ message_max → fewest i l ≤ 316
unfolding fewest payload_max
fewest_most i l h = each_size (λ s. (l : ℕ) → l ≤ message_max → max 1 ((l + (s - 3 - 1)) / (s - 3)) ≤ 316)
    (λ l h. omega arith) (λ l h. omega arith) (λ l h. omega arith) (λ l h. omega arith) (λ l h. omega arith) (λ l h. omega arith) (λ l h. omega arith) (λ l h. omega arith) (λ l h. omega arith) i l h

pub fits_both : (n room : ℕ) → n ≤ message_max → n ≤ room → fits n room ≡ true
unfolding fits
fits_both n room h g = le-leb n (min message_max room) (omega arith)

-- n bytes that one message may have fit where there is room for them; more do not
pub fits_room : (n room : ℕ) → n ≤ message_max → leb n room ≡ fits n room
unfolding fits
fits_room n room h = leb_iff n room n (min message_max room) (λ k. omega arith) (λ k. omega arith)

pub fits_none : (n room : ℕ) → message_max < n → false ≡ fits n room
unfolding fits
fits_none n room h = sym (lt-leb n (min message_max room) (omega arith))

-- a sum that is cut off at the last number of a type fits where the sum does
pub fits_cut : (n top room : ℕ) → message_max < top → leb (min n top) (min room message_max) ≡ fits n room
unfolding fits
fits_cut n top room h = leb_iff (min n top) (min room message_max) n (min message_max room) (λ k. omega arith) (λ k. omega arith)

pub fits_true : (n room : ℕ) → true ≡ fits n room → (n ≤ message_max) × (n ≤ room)
unfolding fits
fits_true n room e = let h : n ≤ min message_max room = leb-true n (min message_max room) (sym e) in (omega arith, omega arith)

-- the same without a sum
pub follows_sub : (i at len : ℕ) → ltb at (len - payload_max i) ≡ follows i at len
unfolding follows
follows_sub i at len = leb_iff (suc at) (len - payload_max i) (suc (at + payload_max i)) len (λ k. omega arith) (λ k. omega arith)

pub follows_none : (i at len : ℕ) → len ≤ at + payload_max i → follows i at len ≡ false
unfolding follows
follows_none i at len h = le-ltb (at + payload_max i) len h

-- the payload of a block that is not the last is full
pub part_full : (i at : ℕ) (m : List ℕ) → at + payload_max i ≤ length m → length (part i at m) ≡ payload_max i
unfolding part
part_full i at m h = simp (length-take, length-drop) (omega arith)

pub part_fits : (i at : ℕ) (m : List ℕ) → length (part i at m) ≤ payload_max i
unfolding part
part_fits i at m = simp (length-take, length-drop) (omega arith)

-- the last one holds what is left
pub part_rest : (i at : ℕ) (m : List ℕ) → at ≤ length m → length m ≤ at + payload_max i → at + length (part i at m) ≡ length m
unfolding part
part_rest i at m h g = simp (length-take, length-drop) (omega arith)

-- a payload by its number of bytes
pub part_length : (i at : ℕ) (m : List ℕ) → length (part i at m) ≡ part_bytes i at (length m)
unfolding part part_bytes
part_length i at m = simp (length-take, length-drop)

pub part_none : (i at : ℕ) (m : List ℕ) → 0 ≡ part_bytes i at (length m) → part i at m ≡ []
part_none i at m e = is_nil_law (part i at m) (part_length i at m ∙ sym e)

pub part_cut : (i at n : ℕ) (m : List ℕ) → n ≡ part_bytes i at (length m) → take (at + n - at) (drop at m) ≡ part i at m
unfolding part part_bytes
part_cut i at n m e = go (leb (payload_max i) (length m - at)) refl
  where
    go : (t : Bool) → leb (payload_max i) (length m - at) ≡ t → take (at + n - at) (drop at m) ≡ take (payload_max i) (drop at m)
    go true h =
        let g : payload_max i ≤ length m - at = leb-true (payload_max i) (length m - at) h in
        let f : at + n - at ≡ payload_max i = omega arith in
        rw f
    go false h =
        let g : length m - at < payload_max i = leb-false (payload_max i) (length m - at) h in
        rw (take_all (at + n - at) (drop at m) (simp length-drop (omega arith)), take_all (payload_max i) (drop at m) (simp length-drop (omega arith)))

-- .. as it is cut from a message: of what is left of it, no more than the receiver takes
pub part_slice : (i at a : ℕ) (l m : List ℕ) → a ≡ min at (length m) → l ≡ take (length m - a) (drop a m) → take (min (payload_max i) (length l)) l ≡ part i at m
unfolding part
part_slice i at a l m e f =
    let g : l ≡ drop at m = f ∙ take_all (length m - a) (drop a m) (simp length-drop (omega arith)) ∙ rw e (drop_min at m) in
    take_min (payload_max i) l ∙ ap (take (payload_max i)) g

-- the bytes before a place and the payload from there on
pub take_part : (i at : ℕ) (m : List ℕ) → take at m ++ part i at m ≡ take (at + payload_max i) m
unfolding part
take_part i at m = sym (take-add at (payload_max i) m)

pub part_in : (i at : ℕ) (m : List ℕ) → at ≤ length m → at + length (part i at m) ≤ length m
unfolding part
part_in i at m h = simp (length-take, length-drop) (omega arith)

-- every payload of a list is small enough for a receiver of size index i
abbrev pub Small : ℕ → List (List ℕ) → Type 0
Small i [] = Unit
Small i (p ∷ ps) = (length p ≤ payload_max i) × Small i ps

abbrev pub joined : List (List ℕ) → List ℕ
joined [] = []
joined (p ∷ ps) = p ++ joined ps

small_length : (i : ℕ) (ps : List (List ℕ)) → Small i ps → length (joined ps) ≤ payload_max i * length ps
small_length i [] h = omega arith
small_length i (p ∷ ps) h = rw (length-append, mul-suc) (omega (arith, h.0, small_length i ps h.1))

-- `fewest` is the fewest: no list of payloads that makes up the message is shorter
pub no_fewer : (i : ℕ) (ps : List (List ℕ)) → Small i ps → 1 ≤ length ps → fewest i (length (joined ps)) ≤ length ps
no_fewer i ps h g = fewest_least i (length (joined ps)) (length ps) g (small_length i ps h)
