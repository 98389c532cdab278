-- Laws of the on-air row: how it is written byte by byte and level by level, and how long it is. Assumes nothing.
use Rattle.std.specs.Prelude.{◌≡◌, refl, ℕ, suc, ◌+◌, ◌*◌, ◌≤◌, ◌<◌, List, [], ◌∷◌, ◌++◌, map, length, take, get_or}
use Rattle.std.proofs.Common.{ap, ◌∙◌, append_assoc, append-nil, length-append, take-suc, length-take-le, zero-add, add-one, arith}
use Rattle.rows.specs.Rows.{overlay}
use Rattle.rows.proofs.RowLaws.{overlay_next}
use Rattle.parity.specs.Bits.{bits_of}
use Rattle.parity.specs.BitLaws.{length_bits}
use Rattle.frame.specs.Frame.{air_bits}
use Rattle.frame.specs.ByteLaws.{length_air_bits, air_bits_append}
use Rattle.uid.specs.Uid.{level_count, levels, three_levels, air, row_of}
use Rattle.uid.specs.declared.Uid.{Uid}
use Rattle.uid.specs.declared.UidSize.{UidSize}
use Rattle.uid.specs.declared.UidSize.TheVariants.{Single, Double, Triple}

-- ---- bytes in air order

air_bits_next : (l : List ℕ) (i : ℕ) → i < length l → air_bits (take (suc i) l) ≡ air_bits (take i l) ++ bits_of 8 (get_or l i 0)
unfolding air_bits
air_bits_next l i h = rw (take-suc l i 0, air_bits_append, append-nil)

-- a turn of the loop over bytes
pub bits_turn : (d : List ℕ) (at : ℕ) (l : List ℕ) (i : ℕ) → at + 8 * length l ≤ length d → i < length l
    → overlay (overlay d at (air_bits (take i l))) (at + 8 * i) (bits_of 8 (get_or l i 0)) ≡ overlay d at (air_bits (take (i + 1) l))
bits_turn d at l i h lt =
    let e : length (air_bits (take i l)) ≡ 8 * i = length_air_bits (take i l) ∙ ap (λ (n : ℕ). 8 * n) (length-take-le i l (omega arith)) in
    rw (add-one, air_bits_next l i lt, ← e)
    (overlay_next d at (air_bits (take i l)) (bits_of 8 (get_or l i 0)) (omega (arith, e, length_bits 8 (get_or l i 0))))

-- ---- levels in air order

air_append : (k l : List (List ℕ)) → air (map air_bits (k ++ l)) ≡ air (map air_bits k) ++ air (map air_bits l)
unfolding air
air_append [] l = refl
air_append (r ∷ k) l = simp (air_append k l, append_assoc)

air_next : (l : List (List ℕ)) (i : ℕ) → i < length l
    → air (map air_bits (take (suc i) l)) ≡ air (map air_bits (take i l)) ++ air_bits (get_or l i [])
unfolding air
air_next l i h = rw (take-suc l i [], air_append, append-nil)

-- a turn of the loop over levels
pub levels_turn : (d : List ℕ) (l : List (List ℕ)) (i : ℕ) → i < length l → length (air (map air_bits (take i l))) ≡ 40 * i
    → length (get_or l i []) ≡ 5 → 40 * i + 40 ≤ length d
    → (overlay (overlay d 0 (air (map air_bits (take i l)))) (40 * i) (air_bits (get_or l i [])) ≡ overlay d 0 (air (map air_bits (take (i + 1) l))))
    × (length (air (map air_bits (take (i + 1) l))) ≡ 40 * (i + 1))
levels_turn d l i lt e f h =
    let row : List ℕ = air (map air_bits (take i l)) in
    let five : List ℕ = air_bits (get_or l i []) in
    let g : length five ≡ 40 = length_air_bits (get_or l i []) ∙ ap (λ (n : ℕ). 8 * n) f in
    rw (add-one, air_next l i lt) ((rw (← e) (rw (zero-add (length row)) at (overlay_next d 0 row five (omega arith)))), rw length-append (omega arith))

-- ---- the row of a UID

-- the levels that count are the first of the three
front_of_law : (z : UidSize) (b : List ℕ)
    → take (level_count z) (three_levels (record { size = z; bytes = b })) ≡ levels (record { size = z; bytes = b })
unfolding three_levels levels
front_of_law Single b = refl
front_of_law Double b = refl
front_of_law Triple b = refl

pub levels_front : (u : Uid) → take (level_count u.size) (three_levels u) ≡ levels u
levels_front u = front_of_law u.size u.bytes

-- what the loop over levels has written is the on-air row
pub row_made : (u : Uid) (n : ℕ) (l : List (List ℕ)) → n ≡ level_count u.size → l ≡ three_levels u → air (map air_bits (take n l)) ≡ row_of u
unfolding row_of
row_made u n l p q = rw (p, q, levels_front u)
