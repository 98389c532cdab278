-- Laws of rows written into rows. Assumes nothing.
use Rattle.std.specs.Prelude.{◌≡◌, List, [], ◌∷◌, ◌++◌, ℕ, ◌+◌, ◌-◌, ◌≤◌, ◌<◌, length, take, drop, get_or, set}
use Rattle.std.proofs.Common.{sym, ap, ◌∙◌, append_assoc, append-nil, add-one, add-zero, zero-add, add_assoc, arith, length-append, length-take, length-drop, take-append-drop, drop_of_length-le, take_at, take-suc, drop-drop, length-take-le, take_all}
use Rattle.std.proofs.lemmas.List.{set_split, drop-append-le}
use Rattle.std.proofs.Math.Seq.{drop-append-add, take-append_seam}
use Rattle.rows.specs.Rows.{overlay}

pub length_overlay : (d : List ℕ) (at : ℕ) (s : List ℕ) → at + length s ≤ length d → length (overlay d at s) ≡ length d
unfolding overlay
length_overlay d at s h = simp (length-append, length-take, length-drop) (omega arith)

-- nothing written changes nothing
pub overlay_nil : (d : List ℕ) (at : ℕ) → overlay d at [] ≡ d
unfolding overlay
overlay_nil d at = rw (add-zero, take-append-drop)

drop_past : (p q : List ℕ) (n k : ℕ) → length p ≡ n → drop (n + k) (p ++ q) ≡ drop k q
drop_past p q n k e = rw (← e, drop-append-add)

-- two rows written one behind the other are one row
pub overlay_next : (d : List ℕ) (at : ℕ) (s t : List ℕ) → at + length s + length t ≤ length d
    → overlay (overlay d at s) (at + length s) t ≡ overlay d at (s ++ t)
unfolding overlay
overlay_next d at s t h =
    let p : List ℕ = take at d ++ s in
    let r : List ℕ = drop (at + length s) d in
    let e : length p ≡ at + length s = simp (length-append, length-take) (omega arith) in
    rw (
      ← append_assoc (take at d) s r,
      take_at p r (at + length s) e,
      drop_past p r (at + length s) (length t) e,
      drop-drop,
      length-append,
      append_assoc,
      append_assoc,
      add_assoc,
    )

-- a store is a row of one element written
pub overlay_one : (d : List ℕ) (at v : ℕ) → at < length d → set d at v ≡ overlay d at (v ∷ [])
unfolding overlay
overlay_one d at v h = rw (set_split d at v h, add-one)

-- one element more is stored behind a row
pub overlay_set : (d : List ℕ) (at : ℕ) (s : List ℕ) (v : ℕ) → at + length s < length d
    → set (overlay d at s) (at + length s) v ≡ overlay d at (s ++ (v ∷ []))
overlay_set d at s v h =
    overlay_one (overlay d at s) (at + length s) v (rw (length_overlay d at s (omega arith)) h)
    ∙ overlay_next d at s (v ∷ []) (omega arith)

-- a turn of the loop that copies
pub overlay_copy : (d : List ℕ) (at : ℕ) (s : List ℕ) (i : ℕ) → at + i < length d → i < length s
    → set (overlay d at (take i s)) (at + i) (get_or s i 0) ≡ overlay d at (take (i + 1) s)
overlay_copy d at s i h l =
    let e : length (take i s) ≡ i = length-take-le i s (omega arith) in
    rw (add-one, take-suc s i 0) (rw e at (overlay_set d at (take i s) (get_or s i 0) (rw e h)))

-- a row written at the start of the part from k on is written at k: the rest of a `&mut` slice, lent on
pub overlay_part : (d : List ℕ) (k : ℕ) (s : List ℕ) → k ≤ length d
    → take k d ++ (overlay (take (length d - k) (drop k d)) 0 s ++ drop (length d - k) (drop k d)) ≡ overlay d k s
unfolding overlay
overlay_part d k s h =
    let e : length (drop k d) ≤ length d - k = simp length-drop (omega arith) in
    rw (take_all (length d - k) (drop k d) e, drop_of_length-le (drop k d) e, append-nil, zero-add, drop-drop)

-- what stands at the front of a row after a row was written there
pub overlay_front : (d s : List ℕ) → take (length s) (overlay d 0 s) ≡ s
unfolding overlay
overlay_front d s = take-append_seam s (drop (0 + length s) d)

-- .. which the row is long enough for
pub overlay_fits : (d s : List ℕ) → length s ≤ length (overlay d 0 s)
unfolding overlay
overlay_fits d s = simp length-append (omega arith)

-- a row written over one that is as long takes its place
pub overlay_all : (d s : List ℕ) → length d ≡ length s → overlay d 0 s ≡ s
unfolding overlay
overlay_all d s e = rw (zero-add, ← e, drop_of_length-le d {i = length d} (omega arith), append-nil)

-- the front of a row that was filled apart, wholly or in part, with what stands behind it
pub front_filled : (d s xs : List ℕ) (n : ℕ) → n ≤ length d → length s ≤ n → xs ≡ overlay (take n d) 0 s → xs ++ drop n d ≡ overlay d 0 s
unfolding overlay
front_filled d s xs n h l e =
    let k : drop (length s) (take n d) ++ drop n d ≡ drop (length s) d =
    sym (drop-append-le (length s) (take n d) (drop n d) (omega (arith, length-take-le n d h))) ∙ ap (drop (length s)) (take-append-drop n d) in
    rw (e, zero-add, append_assoc, k)
